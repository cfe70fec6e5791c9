-- The refusal of a ranked list.
use Rattle.std.specs.Prelude.{ℕ}
use Rattle.ranked.specs.declared.refusal.Refusal.{Refusal}
use Rattle.ranked.specs.declared.refusal.Refusal.TheVariants.{NoFreePlace}

-- the number by which a refusal is published
abbrev pub number_of : Refusal → ℕ
number_of NoFreePlace = 7
