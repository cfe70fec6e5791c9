-- What a width rule means: a width for each bid. Bids, offers and widths count ten-thousandths of a dollar.
use Rattle.std.specs.Prelude.{◌≡◌, ℕ, ◌-◌, ◌*◌, ◌/◌, ◌≤◌, min, Bool, true, cond, ◌&&◌, List, [], ◌∷◌, nat_le, nat_lt, refl}
use Rattle.std.proofs.Common.{arith}
use Rattle.std.proofs.lemmas.Bool.{and_parts, cond_both, leb-true}

-- the widest width that a rule may answer
abbrev pub widest : ℕ
widest = 1000000

-- no rule of a kind answers more than the widest width
abbrev pub Capped : {X : Type 0} → (X → ℕ → ℕ) → Type 0
Capped {X} means = (w : X) (bid : ℕ) → means w bid ≤ widest

-- the published table: each row is its lowest bid and its width
abbrev pub rows : List (ℕ × ℕ)
rows = (0, 5000) ∷ (20000, 8000) ∷ (50100, 10000) ∷ (100100, 20000) ∷ (200100, 30000) ∷ (500100, 50000) ∷ (1000100, 80000) ∷ (2000100, 120000) ∷ []

-- the width of the last of some rows whose lowest bid is at or below the bid, or else the width given
abbrev pub looked_up : ℕ → List (ℕ × ℕ) → ℕ → ℕ
looked_up bid [] w = w
looked_up bid (r ∷ rs) w = looked_up bid rs (cond (nat_le r.0 bid) r.1 w)

-- the width of a bid in the published table
abbrev pub table_width : ℕ → ℕ
table_width bid = looked_up bid rows 0

-- a width times some tenths, rounded down and capped
abbrev pub multiplied : ℕ → ℕ → ℕ
multiplied w tenths = min widest (w * tenths / 10)

-- whether an offer is further above a bid than the width; an offer below the bid is no distance above it
abbrev pub too_wide : ℕ → ℕ → ℕ → Bool
too_wide w bid offer = nat_lt w (offer - bid)

pub multiplied-capped : (w tenths : ℕ) → multiplied w tenths ≤ widest
multiplied-capped w tenths = omega arith

-- no row is wider than the widest width
abbrev capped : List (ℕ × ℕ) → Bool
capped [] = true
capped (r ∷ rs) = nat_le r.1 widest && capped rs

looked_up_capped : (bid : ℕ) (rs : List (ℕ × ℕ)) (w : ℕ) → w ≤ widest → capped rs ≡ true → looked_up bid rs w ≤ widest
looked_up_capped bid [] w h e = h
looked_up_capped bid (r ∷ rs) w h e =
    let p = and_parts (nat_le r.1 widest) (capped rs) e in
    looked_up_capped bid rs (cond (nat_le r.0 bid) r.1 w)
    (cond_both (nat_le r.0 bid) r.1 w (λ z. z ≤ widest) (λ t. leb-true _ _ p.0) (λ t. h))
    p.1

pub table_capped : (bid : ℕ) → table_width bid ≤ widest
table_capped bid = looked_up_capped bid rows 0 (omega arith) refl
