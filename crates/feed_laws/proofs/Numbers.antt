-- Numbers and the bytes that write them.
use Rattle.std.proofs.Common.{◌≡◌, ℕ, zero, suc, ◌+◌, ◌*◌, ◌/◌, ◌%◌, ◌^◌, ◌<◌, ◌≤◌, List, [], ◌∷◌, ◌++◌, length, get_or, sym, refl, ap, ◌∙◌, arith}
use native.Mathlib.Nat.{pow-succ'}
use Rattle.std.proofs.lemmas.List.{get_or_append_left}
use Rattle.feed.specs.Bytes.{cells, le, bytes, AreBytes}

-- the number that a number's bytes write
pub le_bytes : (w n : ℕ) → n < 256 ^ w → le (bytes w n) ≡ n
le_bytes zero n h = omega arith
le_bytes (suc w) n h =
    let p : n < 256 * 256 ^ w = rw pow-succ' at h in
    let less : n / 256 < 256 ^ w = omega arith in
    let again = le_bytes w (n / 256) less in
    omega arith

-- the bytes of the number that bytes write
pub bytes_le : (bs : List ℕ) → AreBytes bs → bytes (length bs) (le bs) ≡ bs
bytes_le [] h = refl
bytes_le (b ∷ bs) h =
    let low : (b + 256 * le bs) % 256 ≡ b = omega arith in
    let high : (b + 256 * le bs) / 256 ≡ le bs = omega arith in
    (λ i. low i ∷ bytes (length bs) (high i)) ∙ ap (λ t. b ∷ t) (bytes_le bs h.1)

-- cells of bytes are bytes
are_get_or : (xs : List ℕ) (i : ℕ) → AreBytes xs → get_or xs i 0 < 256
are_get_or [] i h = omega arith
are_get_or (x ∷ xs) zero h = h.0
are_get_or (x ∷ xs) (suc i) h = are_get_or xs i h.1

are_cells : (xs : List ℕ) (n i : ℕ) → AreBytes xs → AreBytes (cells n i xs)
are_cells xs zero i h = tt
are_cells xs (suc n) i h = (are_get_or xs i h, are_cells xs n (i + 1) h)

length-cells : (xs : List ℕ) (n i : ℕ) → length (cells n i xs) ≡ n
length-cells xs zero i = refl
length-cells xs (suc n) i = ap suc (length-cells xs n (i + 1))

-- the bytes of the number in the cells of a message
pub cells_again : (xs : List ℕ) (n i : ℕ) → AreBytes xs → bytes n (le (cells n i xs)) ≡ cells n i xs
cells_again xs n i h = ap (λ k. bytes k (le (cells n i xs))) (sym (length-cells xs n i)) ∙ bytes_le (cells n i xs) (are_cells xs n i h)

-- what lies behind does not matter
pub cells_front : (xs ys : List ℕ) (n i : ℕ) → i + n ≤ length xs → cells n i (xs ++ ys) ≡ cells n i xs
cells_front xs ys zero i h = refl
cells_front xs ys (suc n) i h = λ j. get_or_append_left xs ys 0 i (omega arith) j ∷ cells_front xs ys n (i + 1) (omega arith) j
