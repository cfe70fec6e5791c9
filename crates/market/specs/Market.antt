-- What an outside market means: a bid or none, and an offer or none.
use Rattle.std.specs.Prelude.{◌≡◌, ℕ, ◌%◌, ◌≤◌, min, max, Bool, true, cond, ◌&&◌, List, [], ◌∷◌, Some, None, Option, ◌==◌, nat_le}

-- a bid or none, and an offer or none
abbrev pub Pair : Type 0
Pair = Option ℕ × Option ℕ

-- a market price: a multiple of 100 from 100 to 500,000,000
abbrev pub Price : ℕ → Type 0
Price p = (p % 100 ≡ 0) × (100 ≤ p) × (p ≤ 500000000)

-- the same as a test
abbrev pub is_price : ℕ → Bool
is_price p = p % 100 == 0 && (nat_le 100 p && nat_le p 500000000)

-- a side that is there is a market price
abbrev pub Side : Option ℕ → Type 0
Side None = Unit {0}
Side (Some p) = Price p

abbrev pub side_fit : Option ℕ → Bool
side_fit None = true
side_fit (Some p) = is_price p

-- both sides of a pair are so
abbrev pub sides_fit : Pair → Bool
sides_fit m = side_fit m.0 && side_fit m.1

-- what every market keeps: each side that is there is a market price
abbrev pub Fit : {X : Type 0} → (X → Pair) → Type 0
Fit {X} means = (m : X) → Side (means m).0 × Side (means m).1

-- the higher of two bids, none only if both lack it
abbrev pub higher : Option ℕ → Option ℕ → Option ℕ
higher None b = b
higher (Some x) None = Some x
higher (Some x) (Some y) = Some (max x y)

-- the lower of two offers, none only if both lack it
abbrev pub lower : Option ℕ → Option ℕ → Option ℕ
lower None b = b
lower (Some x) None = Some x
lower (Some x) (Some y) = Some (min x y)

-- the tighter of two markets
abbrev pub tighter : Pair → Pair → Pair
tighter m n = (higher m.0 n.0, lower m.1 n.1)

-- a market until it is closed, and then nothing
abbrev pub until : Bool → Pair → Pair
until closed m = cond closed (None, None) m

-- the highest of some bids and the lowest of some offers, none of none
abbrev pub highest : List ℕ → Option ℕ
highest [] = None
highest (p ∷ ps) = higher (Some p) (highest ps)

abbrev pub lowest : List ℕ → Option ℕ
lowest [] = None
lowest (p ∷ ps) = lower (Some p) (lowest ps)
