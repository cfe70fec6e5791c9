-- A live pair.
use Rattle.std.specs.Prelude.{cond, ◌&&◌, Some, None, Option}
use Rattle.market.specs.Market.{Pair, side_fit}
use Rattle.market.specs.declared.live.LivePair.{LivePair}
use Rattle.market.specs.declared.refusal.Refusal.{Refusal}
use Rattle.market.specs.declared.refusal.Refusal.TheVariants.{Unfit}

-- its two sides
abbrev pub sides : LivePair → Pair
sides m = m.sides

-- why a pair cannot be set, if so: a side that is given is no market price
abbrev pub set_refusal : Pair → Option Refusal
set_refusal m = cond (side_fit m.0 && side_fit m.1) None (Some Unfit)
