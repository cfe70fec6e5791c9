-- Pairs of hex digits, one pair at a time.
use Rattle.std.proofs.Common.{◌≡◌, ℕ, zero, suc, ◌+◌, ◌*◌, ◌/◌, ◌%◌, ◌<◌, Bool, true, false, ◌&&◌, eqb, List, [], ◌∷◌, length, map, get_or, sym, refl, ap, ◌∙◌, arith}
use Rattle.std.proofs.lemmas.Bool.{and_parts, and_right, ne_eqb}
use Rattle.std.specs.Simd.{first_chunks}
use Rattle.std.proofs.lemmas.Bool.Decides.{nat_tests}
use Rattle.std.specs.Char.{is_ascii_hexdigit}
use Rattle.std.specs.List.{list_all}
use Rattle.text.specs.Hex.{is_hex_digit, hex_digit, is_hex_pairs, hex_bytes}

pub hexdigit_is : (b : ℕ) → is_ascii_hexdigit b ≡ is_hex_digit b
hexdigit_is b = grind (arith, nat_tests)

-- an even number of digits is pairs of digits
pub pairs_all : (xs : List ℕ) → length xs % 2 ≡ 0 → list_all is_hex_digit xs ≡ is_hex_pairs xs
pairs_all [] h = refl
pairs_all (a ∷ []) h = absurd (omega (arith, h))
pairs_all (a ∷ (b ∷ cs)) h =
    let even : length cs % 2 ≡ 0 = omega (arith, h) in
    rw (pairs_all cs even) (go (is_hex_digit a))
  where
    go : (t : Bool) → (t && (is_hex_digit b && is_hex_pairs cs)) ≡ ((t && is_hex_digit b) && is_hex_pairs cs)
    go true = refl
    go false = refl

pub pairs_odd : (xs : List ℕ) → (length xs % 2 ≡ 0 → ⊥) → eqb (length xs % 2) 0 ≡ is_hex_pairs xs
pairs_odd xs h = ne_eqb (length xs % 2) 0 h ∙ sym (odd xs h)
  where
    odd : (ys : List ℕ) → (length ys % 2 ≡ 0 → ⊥) → is_hex_pairs ys ≡ false
    odd [] k = absurd (k (omega arith))
    odd (a ∷ []) k = refl
    odd (a ∷ (b ∷ cs)) k =
        let rest : length cs % 2 ≡ 0 → ⊥ = λ e. k (omega (arith, e)) in
        rw (odd cs rest) (and_right (is_hex_digit a && is_hex_digit b) false refl)

-- the byte that a pair writes
abbrev pub byte_of : List ℕ → ℕ
byte_of p = hex_digit (get_or p 0 0) * 16 + hex_digit (get_or p 1 0)

pub chunk_digits : (k : ℕ) (xs : List ℕ) (i : ℕ) → is_hex_pairs xs ≡ true → k ≡ length xs / 2 → i < k → (is_hex_digit (get_or (get_or (first_chunks 2 k xs) i []) 0 0) ≡ true) × (is_hex_digit (get_or (get_or (first_chunks 2 k xs) i []) 1 0) ≡ true)
chunk_digits zero xs i h n l = absurd (omega arith)
chunk_digits (suc k) [] i h n l = absurd (omega (arith, n))
chunk_digits (suc k) (a ∷ []) i h n l = absurd (omega (arith, n))
chunk_digits (suc k) (a ∷ (b ∷ cs)) zero h n l = and_parts (is_hex_digit a) (is_hex_digit b) (and_parts (is_hex_digit a && is_hex_digit b) (is_hex_pairs cs) h).0
chunk_digits (suc k) (a ∷ (b ∷ cs)) (suc i) h n l = chunk_digits k cs i (and_parts (is_hex_digit a && is_hex_digit b) (is_hex_pairs cs) h).1 (omega (arith, n)) (omega (arith, l))

pub chunk_bytes : (k : ℕ) (xs : List ℕ) → is_hex_pairs xs ≡ true → k ≡ length xs / 2 → map byte_of (first_chunks 2 k xs) ≡ hex_bytes xs
chunk_bytes zero [] h n = refl
chunk_bytes zero (a ∷ []) h n = absurd cc
chunk_bytes zero (a ∷ (b ∷ cs)) h n = absurd (omega (arith, n))
chunk_bytes (suc k) [] h n = absurd (omega (arith, n))
chunk_bytes (suc k) (a ∷ []) h n = absurd (omega (arith, n))
chunk_bytes (suc k) (a ∷ (b ∷ cs)) h n = ap (λ (l : List ℕ). (hex_digit a * 16 + hex_digit b) ∷ l) (chunk_bytes k cs (and_parts (is_hex_digit a && is_hex_digit b) (is_hex_pairs cs) h).1 (omega (arith, n)))
