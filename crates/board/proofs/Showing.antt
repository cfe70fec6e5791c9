-- What the pieces of a format write.
use Rattle.std.proofs.Common.{◌≡◌, ℕ, ◌+◌, ◌<◌, ◌≤◌, ◌⊎◌, true, false, List, [], ◌∷◌, ◌++◌, length, get_or, take, codes, sym, refl, ap, ◌∙◌, arith}
use lib.Utf8.{encode}
use Rattle.std.proofs.lemmas.List.{take_more, flat_map_more}
use Rattle.std.proofs.lemmas.Str.{encode_ascii}
use Rattle.std.proofs.lemmas.Bool.Decides.{nat_tests}
use Rattle.std.specs.Int.{is_in_range}
use Rattle.std.specs.Char.{is_ascii_graphic}
use Rattle.board.specs.Lines.{capital_pair, letter_text, word_text, condition_text}

-- a byte that is not printable
pub escaped : (b : ℕ) → (b < 32) ⊎ (127 ≤ b) → codes "\\x" ++ capital_pair b ≡ letter_text b
escaped b h = let w : is_in_range 0x20 0x7e b ≡ false = grind (arith, nat_tests) in rw w

-- a visible byte as its character
pub visible : (b c : ℕ) → c ≡ b → is_ascii_graphic b ≡ true → encode c ≡ condition_text b
unfolding condition_text
visible b c same w =
    let small : b < 128 = grind (arith, nat_tests) in
    let e = encode_ascii c (omega arith) in
    rw (w, e) (ap (λ (n : ℕ). n ∷ []) same)

pub hidden : (b : ℕ) → is_ascii_graphic b ≡ false → codes "0x" ++ capital_pair b ≡ condition_text b
unfolding condition_text
hidden b w = rw w

-- one more byte of a word
pub word_none : word_text [] ≡ []
unfolding word_text
word_none = refl

pub word_more : (bs : List ℕ) (i : ℕ) → i < length bs → word_text (take i bs) ++ letter_text (get_or bs i 0) ≡ word_text (take (i + 1) bs)
unfolding word_text
word_more bs i h = flat_map_more letter_text [] (take i bs) (get_or bs i 0) ∙ ap word_text (sym (take_more bs i 0 h))
