-- Bytes that are written in hex, read back.
use Rattle.std.proofs.Common.{◌≡◌, ℕ, ◌+◌, ◌*◌, ◌/◌, ◌%◌, ◌<◌, true, false, List, [], ◌∷◌, ◌++◌, map, refl, ap, ◌∙◌, arith}
use Rattle.std.proofs.lemmas.Bool.Decides.{nat_tests}
use Rattle.std.specs.Char.{digit_char}
use Rattle.std.specs.List.{flat_map, AllByRecursion}
use Rattle.text.specs.Hex.{is_hex_digit, hex_digit, is_hex_pairs, hex_bytes, hex_pair, hex_text, HexReadsBack}
use Rattle.text.specs.Word.{is_byte, is_blank, uncommented_of, pieces_of, inked, word_list}

digit_back : (d : ℕ) → d < 16 → (is_hex_digit (digit_char d) ≡ true) × (hex_digit (digit_char d) ≡ d)
digit_back d h = (grind (arith, nat_tests), grind (arith, nat_tests))

digit_unblank : (d : ℕ) → is_blank (digit_char d) ≡ false
digit_unblank d = grind (arith, nat_tests)

digit_plain : (d : ℕ) → is_byte 35 (digit_char d) ≡ false
digit_plain d = grind (arith, nat_tests)

-- no comment begins in it
plain_hex_text : (b : ℕ) (bs : List ℕ) → uncommented_of (hex_text (b ∷ bs)) ≡ hex_text (b ∷ bs)
unfolding hex_text
plain_hex_text b [] = let p = digit_plain (b / 16) in let q = digit_plain (b % 16) in rw (p, q)
plain_hex_text b (x ∷ xs) =
    let p = digit_plain (b / 16) in
    let q = digit_plain (b % 16) in
    rw (p, q) (ap (λ (l : List ℕ). digit_char (b / 16) ∷ digit_char (b % 16) ∷ 32 ∷ l) (plain_hex_text x xs))

-- its pieces are the pairs, and none is empty
pieces_hex_text : (b : ℕ) (bs : List ℕ) → pieces_of (hex_text (b ∷ bs)) ≡ map hex_pair (b ∷ bs)
unfolding hex_text
pieces_hex_text b [] = let p = digit_unblank (b / 16) in let q = digit_unblank (b % 16) in rw (p, q)
pieces_hex_text b (x ∷ xs) =
    let p = digit_unblank (b / 16) in
    let q = digit_unblank (b % 16) in
    rw (p, q) (ap (λ (l : List (List ℕ)). hex_pair b ∷ l) (pieces_hex_text x xs))

inked_pairs : (bs : List ℕ) → inked (map hex_pair bs) ≡ map hex_pair bs
inked_pairs [] = refl
inked_pairs (b ∷ bs) = ap (λ (l : List (List ℕ)). hex_pair b ∷ l) (inked_pairs bs)

words_hex_text : (b : ℕ) (bs : List ℕ) → word_list (uncommented_of (hex_text (b ∷ bs))) ≡ map hex_pair (b ∷ bs)
unfolding word_list
words_hex_text b bs = ap word_list (plain_hex_text b bs) ∙ ap inked (pieces_hex_text b bs) ∙ inked_pairs (b ∷ bs)

pair_back : (b : ℕ) → b < 256 → (is_hex_pairs (hex_pair b) ≡ true) × (hex_bytes (hex_pair b) ≡ b ∷ [])
pair_back b h =
    let p = digit_back (b / 16) (omega arith) in
    let q = digit_back (b % 16) (omega arith) in
    let e : hex_digit (digit_char (b / 16)) * 16 + hex_digit (digit_char (b % 16)) ≡ b = rw (p.1, q.1) (omega arith) in
    (rw (p.0, q.0), ap (λ (n : ℕ). n ∷ []) e)

pairs_back : (bs : List ℕ) → AllByRecursion (λ b. b < 256) bs → AllByRecursion (λ w. is_hex_pairs w ≡ true) (map hex_pair bs) × (flat_map hex_bytes (map hex_pair bs) ≡ bs)
pairs_back [] h = (tt, refl)
pairs_back (b ∷ bs) h =
    let p = pair_back b h.0 in
    let r = pairs_back bs h.1 in
    ((p.0, r.0), ap (λ (l : List ℕ). l ++ flat_map hex_bytes (map hex_pair bs)) p.1 ∙ ap (λ (l : List ℕ). b ∷ l) r.1)

pub reads_back : HexReadsBack
unfolding hex_text word_list
reads_back [] h = (tt, refl)
reads_back (b ∷ bs) h = rw (words_hex_text b bs) (pairs_back (b ∷ bs) h)
