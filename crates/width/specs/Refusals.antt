-- The refusals of the makers of width rules.
use Rattle.std.specs.Prelude.{ℕ, cond, ◌&&◌, Some, None, Option, nat_le}
use Rattle.width.specs.declared.refusal.Refusal.{Refusal}
use Rattle.width.specs.declared.refusal.Refusal.TheVariants.{OutOfRange}
use Rattle.width.specs.Widths.{widest}

-- the number by which a refusal is published
abbrev pub number_of : Refusal → ℕ
number_of OutOfRange = 42

-- why a flat width is refused, if so: it is over the widest
abbrev pub flat_refusal : ℕ → Option Refusal
flat_refusal w = cond (nat_le w widest) None (Some OutOfRange)

-- why some tenths are refused, if so: they are not 1 to 100
abbrev pub tenths_refusal : ℕ → Option Refusal
tenths_refusal n = cond (nat_le 1 n && nat_le n 100) None (Some OutOfRange)
