-- The writer's refusals.
use Rattle.std.specs.Prelude.{ℕ, Some, None, Ok, Err, Option, Result}
use Rattle.writer.specs.declared.refusal.Refusal.{Refusal}
use Rattle.writer.specs.declared.refusal.Refusal.TheVariants.{NoRoom, Unfit}

-- the number by which a refusal is published
abbrev pub number_of : Refusal → ℕ
number_of NoRoom = 35
number_of Unfit = 36

-- the refusal that a call returned, if any
abbrev pub refused : {X : Type 0} → Result X Refusal → Option Refusal
refused (Ok x) = None
refused (Err refusal) = Some refusal
