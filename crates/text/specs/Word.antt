-- Words of a line.
use Rattle.std.specs.Prelude.{ℕ, Bool, cond, not, ◌||◌, List, [], ◌∷◌, ◌==◌}

-- the bytes before the first that the test takes; all where it takes none
abbrev pub before : (ℕ → Bool) → List ℕ → List ℕ
before test [] = []
before test (c ∷ cs) = cond (test c) [] (c ∷ before test cs)

-- the first byte that the test takes, and all behind it
abbrev pub onward : (ℕ → Bool) → List ℕ → List ℕ
onward test [] = []
onward test (c ∷ cs) = cond (test c) (c ∷ cs) (onward test cs)

-- that byte
abbrev pub is_byte : ℕ → ℕ → Bool
is_byte mark c = c == mark

-- a space, a tab or a carriage return
abbrev pub is_blank : ℕ → Bool
is_blank c = c == 32 || (c == 9 || c == 13)

-- any other byte
abbrev pub is_ink : ℕ → Bool
is_ink c = not (is_blank c)

-- the line before its comment, which begins at a `#`
abbrev pub uncommented_of : List ℕ → List ℕ
uncommented_of line = before (is_byte 35) line

-- the first word of a line; empty where there is none
abbrev pub word_of : List ℕ → List ℕ
word_of line = before is_blank (onward is_ink line)

-- what stands behind the first word
abbrev pub behind_word : List ℕ → List ℕ
behind_word line = onward is_blank (onward is_ink line)

-- a byte before the first of the pieces
abbrev pub on_first : ℕ → List (List ℕ) → List (List ℕ)
on_first c [] = (c ∷ []) ∷ []
on_first c (w ∷ ws) = (c ∷ w) ∷ ws

-- the pieces between single blanks, the empty ones too
abbrev pub pieces_of : List ℕ → List (List ℕ)
pieces_of [] = [] ∷ []
pieces_of (c ∷ cs) = cond (is_blank c) ([] ∷ pieces_of cs) (on_first c (pieces_of cs))

-- the pieces that are not empty
abbrev pub inked : List (List ℕ) → List (List ℕ)
inked [] = []
inked ([] ∷ ws) = inked ws
inked ((c ∷ cs) ∷ ws) = (c ∷ cs) ∷ inked ws

-- all words of a line
unfoldable pub word_list : List ℕ → List (List ℕ)
word_list line = inked (pieces_of line)

-- a word and the words behind it; no word at all where that one is empty
abbrev pub leading : List ℕ → List (List ℕ) → List (List ℕ)
leading [] ws = []
leading (c ∷ cs) ws = (c ∷ cs) ∷ ws
