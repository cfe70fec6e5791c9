-- Bytes in hexadecimal digits.
use Rattle.std.specs.Prelude.{◌≡◌, ℕ, ◌+◌, ◌-◌, ◌*◌, ◌/◌, ◌%◌, ◌<◌, Bool, true, false, cond, ◌&&◌, ◌||◌, List, [], ◌∷◌, ◌++◌, length, take, drop, Some, None, Ok, Err, Option, Result, nat_lt}
use Rattle.std.specs.Int.{is_in_range}
use Rattle.std.specs.Char.{is_ascii_digit, digit_char}
use Rattle.std.specs.List.{flat_map, AllByRecursion}
use Rattle.text.specs.Word.{uncommented_of, word_list}
use Rattle.text.specs.declared.hex.HexError.{HexError}
use Rattle.text.specs.declared.hex.HexError.TheVariants.{NotHex, Alloc}

-- a hex digit of either case
abbrev pub is_hex_digit : ℕ → Bool
is_hex_digit c = is_ascii_digit c || (is_in_range 65 70 c || is_in_range 97 102 c)

-- the value of a hex digit
abbrev pub hex_digit : ℕ → ℕ
hex_digit c = cond (nat_lt c 58) (c - 48) (cond (nat_lt c 71) (c - 55) (c - 87))

-- the value of a byte that is a hex digit
abbrev pub hex_digit_of : ℕ → Option ℕ
hex_digit_of c = cond (is_hex_digit c) (Some (hex_digit c)) None

-- pairs of hex digits, and nothing else
abbrev pub is_hex_pairs : List ℕ → Bool
is_hex_pairs [] = true
is_hex_pairs (a ∷ []) = false
is_hex_pairs (a ∷ (b ∷ cs)) = (is_hex_digit a && is_hex_digit b) && is_hex_pairs cs

-- the bytes that pairs of hex digits write
abbrev pub hex_bytes : List ℕ → List ℕ
hex_bytes [] = []
hex_bytes (a ∷ []) = []
hex_bytes (a ∷ (b ∷ cs)) = (hex_digit a * 16 + hex_digit b) ∷ hex_bytes cs

-- a byte as two lower-case hex digits
abbrev pub hex_pair : ℕ → List ℕ
hex_pair b = digit_char (b / 16) ∷ (digit_char (b % 16) ∷ [])

-- each byte as its pair with a blank before it
abbrev pub blank_pairs : List ℕ → List ℕ
blank_pairs [] = []
blank_pairs (b ∷ bs) = 32 ∷ (hex_pair b ++ blank_pairs bs)

-- each byte as its pair, with one blank between them
unfoldable pub hex_text : List ℕ → List ℕ
hex_text bs = drop 1 (blank_pairs bs)

-- the new text begins with the old one
abbrev pub Keeps : List ℕ → List ℕ → Type 0
Keeps old new = take (length old) new ≡ old

-- what comes of a word: pairs of hex digits alone are taken, where memory lasts, and any other word is given back
abbrev pub HexAnswer : List ℕ → Result (Unit {0}) HexError → Type 0
HexAnswer word (Ok _) = is_hex_pairs word ≡ true
HexAnswer word (Err (NotHex other)) = (is_hex_pairs word ≡ false) × (other.now ≡ word)
HexAnswer word (Err (Alloc _)) = is_hex_pairs word ≡ true

-- a line of what is written, read as any line is: each of its words is hex pairs, and together they write the bytes again
abbrev pub HexReadsBack : Type 0
HexReadsBack = (bs : List ℕ) → AllByRecursion (λ b. b < 256) bs → AllByRecursion (λ w. is_hex_pairs w ≡ true) (word_list (uncommented_of (hex_text bs))) × (flat_map hex_bytes (word_list (uncommented_of (hex_text bs))) ≡ bs)
