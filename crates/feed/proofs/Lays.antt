-- Bytes by their pieces, and how many they are.
use Rattle.std.proofs.Common.{◌≡◌, ℕ, zero, suc, ◌+◌, ◌≤◌, List, ◌∷◌, length, get_or, take, drop, sym, refl, ap, ◌∙◌, arith, rules}
use Rattle.std.proofs.lemmas.List.{take_all, drop_more}
use Rattle.std.specs.Int.{w32, w64, to_le_bytes}
use Rattle.feed.specs.Bytes.{cells, bytes}
use Rattle.feed.specs.Sending.{Sent, sent_update, sent_summary, encoded, size_of, update_bytes, summary_bytes}

-- bytes that lie within a list, cell by cell
pub cells_within : (xs : List ℕ) (n i : ℕ) → i + n ≤ length xs → take n (drop i xs) ≡ cells n i xs
cells_within xs zero i h = refl
cells_within xs (suc n) i h = ap (take (suc n)) (drop_more xs i 0 (omega arith)) ∙ ap (λ t. get_or xs i 0 ∷ t) (cells_within xs n (i + 1) (omega arith))

pub cells_whole : (xs : List ℕ) (n : ℕ) → length xs ≡ n → cells n 0 xs ≡ xs
cells_whole xs n e = sym (cells_within xs n 0 (omega arith)) ∙ take_all n xs (omega arith)

pub encoded_size : (m : Sent) → length (encoded m) ≡ size_of m
unfolding update_bytes summary_bytes
encoded_size (sent_update u) = refl
encoded_size (sent_summary s) = refl

-- the bytes of a number, as the code makes them
pub four_bytes : (n : ℕ) → to_le_bytes w32 n ≡ bytes 4 n
four_bytes n = search rules

pub eight_bytes : (n : ℕ) → to_le_bytes w64 n ≡ bytes 8 n
eight_bytes n = search rules
