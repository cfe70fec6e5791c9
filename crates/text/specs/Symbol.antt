-- Symbols in eight bytes, with blanks behind them.
use Rattle.std.specs.Prelude.{◌≡◌, ℕ, ◌-◌, Bool, true, cond, ◌&&◌, List, [], ◌∷◌, ◌++◌, length, replicate, Some, None, Option, ◌==◌, nat_lt}
use Rattle.std.specs.Char.{is_ascii_graphic}

-- each byte is from 0x21 to 0x7E
abbrev pub all_graphic : List ℕ → Bool
all_graphic [] = true
all_graphic (c ∷ cs) = is_ascii_graphic c && all_graphic cs

-- one to eight such bytes
abbrev pub is_symbol : List ℕ → Bool
is_symbol word = (nat_lt 0 (length word) && nat_lt (length word) 9) && all_graphic word

-- the word with blanks behind it up to eight bytes
unfoldable pub padded_of : List ℕ → Option (List ℕ)
padded_of word = cond (is_symbol word) (Some (word ++ replicate (8 - length word) 32)) None

-- c before the rest, unless c is a blank and nothing is left
abbrev pub before_rest : ℕ → List ℕ → List ℕ
before_rest c [] = cond (c == 32) [] (c ∷ [])
before_rest c (d ∷ ds) = c ∷ (d ∷ ds)

-- the bytes without their trailing blanks
abbrev pub trimmed_of : List ℕ → List ℕ
trimmed_of [] = []
trimmed_of (c ∷ cs) = before_rest c (trimmed_of cs)

-- a word that was padded is trimmed to itself
abbrev pub SymbolReadsBack : Type 0
SymbolReadsBack = (word symbol : List ℕ) → padded_of word ≡ Some symbol → trimmed_of symbol ≡ word
