-- What is said of a word that there is trouble with.
use Rattle.std.specs.Prelude.{ℕ, List, codes}
use Rattle.entry.specs.declared.problem.Trouble.{Trouble}
use Rattle.entry.specs.declared.problem.Trouble.TheVariants.{Verb, Missing, Surplus, Symbol, Letter, Price, Number, Condition}

-- the phrase that follows the word
abbrev pub phrase_of : Trouble → List ℕ
phrase_of Verb = codes "is neither update, summary nor send"
phrase_of Missing = codes "lacks words behind it"
phrase_of Surplus = codes "is one word too many"
phrase_of Symbol = codes "is not a symbol of 1 to 8 printable characters"
phrase_of Letter = codes "is not an auction letter (G, O, H or V)"
phrase_of Price = codes "is not a price in dollars with at most four decimals"
phrase_of Number = codes "is not a whole number up to 4294967295"
phrase_of Condition = codes "is not a condition: one character, or 0xNN"
