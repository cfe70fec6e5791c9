-- The fields of a line, read from left to right.
use Rattle.std.specs.Prelude.{ℕ, List, [], ◌∷◌, Some, None, Ok, Err, Option, Result}
use Rattle.text.specs.Price.{dollars_of}
use Rattle.text.specs.Symbol.{padded_of}
use Rattle.entry.specs.declared.problem.Trouble.{Trouble}
use Rattle.entry.specs.declared.problem.Trouble.TheVariants.{Missing, Surplus, Symbol, Letter, Price, Number, Condition}
use Rattle.entry.specs.Values.{letter_of, number_of, condition_of}

infixr 20 ◌then◌
-- a word of the line, and the trouble with it
pub record Complaint : Type 0 where
  pub word : List ℕ
  pub trouble : Trouble

-- the complaint about a word
abbrev pub complaint : List ℕ → Trouble → Complaint
complaint word trouble = record { word = word; trouble = trouble }

-- what is left of a line: its verb, and the words that no field has taken
pub record Line : Type 0 where
  pub verb : List ℕ
  pub words : List (List ℕ)

-- takes words of a line: what they write and the line behind them, or the first complaint
abbrev pub Reader : Type 0 → Type 0
Reader A = Line → Result (A × Line) Complaint

-- what is read on, unless there is a complaint
abbrev pub on_ok : {A B : Type 0} → Result (A × Line) Complaint → (A → Reader B) → Result (B × Line) Complaint
on_ok (Ok p) next = next p.0 p.1
on_ok (Err e) next = Err e

-- one reader and then the next
unfoldable pub ◌then◌ : {A B : Type 0} → Reader A → (A → Reader B) → Reader B
◌then◌ first next line = on_ok (first line) next

-- the first of the words and the line behind it; a line that lacks it is a complaint about its verb
abbrev pub first_of : List ℕ → List (List ℕ) → Result (List ℕ × Line) Complaint
first_of verb [] = Err (complaint verb Missing)
first_of verb (w ∷ ws) = Ok (w, record { verb = verb; words = ws })

-- the next word
unfoldable pub word_in : Reader (List ℕ)
word_in line = first_of line.verb line.words

-- what a word writes, or the complaint that it writes nothing of the kind
abbrev pub fit : {A : Type 0} → Option A → Complaint → Reader A
fit (Some a) e line = Ok (a, line)
fit None e line = Err e

-- the next word as a field of some kind
abbrev pub field_in : {A : Type 0} → (List ℕ → Option A) → Trouble → Reader A
field_in read trouble = word_in then λ word. fit (read word) (complaint word trouble)

-- a symbol, with blanks behind it up to eight bytes
unfoldable pub symbol_in : Reader (List ℕ)
symbol_in = field_in padded_of Symbol

-- an auction letter
unfoldable pub letter_in : Reader ℕ
letter_in = field_in letter_of Letter

-- a price in ten-thousandths of a dollar
unfoldable pub price_in : Reader ℕ
price_in = field_in dollars_of Price

-- a whole number up to 4294967295
unfoldable pub number_in : Reader ℕ
number_in = field_in number_of Number

-- a condition
unfoldable pub condition_in : Reader ℕ
condition_in = field_in condition_of Condition

-- none of the words is left; the first of them is one too many
abbrev pub end_of : List (List ℕ) → Reader (Unit {0})
end_of [] line = Ok (tt, line)
end_of (w ∷ ws) line = Err (complaint w Surplus)

-- the end of the line
unfoldable pub end_in : Reader (Unit {0})
end_in line = end_of line.words line

-- what is read, with no further word
abbrev pub done : {A : Type 0} → A → Reader A
done a line = Ok (a, line)
