-- The refusals of markets.
use Rattle.std.specs.Prelude.{ℕ, Some, None, Option}
use Rattle.market.specs.declared.refusal.Refusal.{Refusal}
use Rattle.market.specs.declared.refusal.Refusal.TheVariants.{NoFreePlace, Unfit}

-- the number by which a refusal is published
abbrev pub number_of : Refusal → ℕ
number_of NoFreePlace = 7
number_of Unfit = 41

-- what a call leaves: what it makes, or, refused, what was there
abbrev pub unless : {X : Type 0} → Option Refusal → X → X → X
unless None new old = new
unless (Some why) new old = old
