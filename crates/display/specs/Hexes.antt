-- Lines of hex.
use Rattle.std.specs.Prelude.{◌≡◌, ℕ, cond, List, [], ◌∷◌, Some, None, Ok, Err, Option, Result}
use Rattle.std.specs.List.{flat_map}
use Rattle.text.specs.Hex.{is_hex_pairs, hex_bytes}
use Rattle.text.specs.declared.hex.HexError.{HexError}
use Rattle.text.specs.declared.hex.HexError.TheVariants.{NotHex, Alloc}
use Rattle.text.specs.Word.{uncommented_of, word_list}

-- the words of a line, without its comment
abbrev pub words_in : List ℕ → List (List ℕ)
words_in line = word_list (uncommented_of line)

-- the first word that is not pairs of hex digits, if there is one
abbrev pub bad_word : List (List ℕ) → Option (List ℕ)
bad_word [] = None
bad_word (w ∷ ws) = cond (is_hex_pairs w) (bad_word ws) (Some w)

-- the bytes that words of hex write
abbrev pub bytes_in : List (List ℕ) → List ℕ
bytes_in ws = flat_map hex_bytes ws

-- what comes of a line with that first bad word: it is the error, and without one only memory can be short
abbrev pub MatchesBadWord : Option (List ℕ) → Result (Unit {0}) HexError → Type 0
MatchesBadWord bad (Ok _) = bad ≡ None
MatchesBadWord bad (Err (NotHex word)) = bad ≡ Some word.now
MatchesBadWord bad (Err (Alloc _)) = Unit {0}
