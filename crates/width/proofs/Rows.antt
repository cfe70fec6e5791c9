-- Rows, looked up by a fold.
use Rattle.std.proofs.Common.{◌≡◌, ℕ, cond, leb, List, [], ◌∷◌, fold, refl}
use Rattle.width.specs.Widths.{looked_up}

pub looked_up_is : (bid : ℕ) (rows : List (ℕ × ℕ)) (w : ℕ) → looked_up bid rows w ≡ fold (λ width row. cond (leb row.0 bid) row.1 width) w rows
looked_up_is bid [] w = refl
looked_up_is bid (row ∷ rows) w = looked_up_is bid rows (cond (leb row.0 bid) row.1 w)
