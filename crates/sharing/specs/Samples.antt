-- Samples of the rules.
use Rattle.std.specs.Prelude.{◌≡◌, [], ◌∷◌}
use Rattle.sharing.specs.Shares.{arrival, pro_rata}

-- ten contracts over three claims of seven are 4, 3 and 3 pro rata, and 7, 3 and 0 by arrival
abbrev pub TenOverThreeSevens : Type 0
TenOverThreeSevens =
    (pro_rata 10 (7 ∷ 7 ∷ 7 ∷ []) ≡ 4 ∷ 3 ∷ 3 ∷ []) × (arrival 10 (7 ∷ 7 ∷ 7 ∷ []) ≡ 7 ∷ 3 ∷ 0 ∷ [])
