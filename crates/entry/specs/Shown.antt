-- What the code has and returns, with each word as its bytes.
use Rattle.std.specs.Prelude.{ℕ, List, Ok, Err, Option, Result}
use Rattle.std.specs.Borrow.{Bor}
use Rattle.text.specs.Word.{word_list}
use Rattle.entry.specs.Fields.{Complaint, complaint, Line}
use Rattle.entry.specs.declared.board.Entry.{Entry}
use Rattle.entry.specs.declared.problem.Problem.{Problem}
use Rattle.entry.specs.declared.words.Fields.{Fields}

-- a problem as a complaint
abbrev pub complaint_of : Problem → Complaint
complaint_of p = complaint p.word.now p.trouble

-- what is left of a line, as its words
abbrev pub line_of : Fields → Line
line_of w = record { verb = w.verb.now; words = word_list w.rest.0.now }

-- what a field gave, and the line that it left
abbrev pub taken : {A : Type 0} → Result A Problem → Line → Result (A × Line) Complaint
taken (Ok a) line = Ok (a, line)
taken (Err p) line = Err (complaint_of p)

-- the word that was taken, and the line that it left
abbrev pub word_taken : Result (Bor (List ℕ)) Problem → Line → Result (List ℕ × Line) Complaint
word_taken (Ok w) line = Ok (w.now, line)
word_taken (Err p) line = Err (complaint_of p)

-- what `parse` returns
abbrev pub answered : Result (Option Entry) Problem → Result (Option Entry) Complaint
answered (Ok entry) = Ok entry
answered (Err p) = Err (complaint_of p)
