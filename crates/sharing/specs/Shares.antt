-- What sharing rules mean: for a number of contracts and the sizes of claims, a share for each claim, in the claims' order.
use Rattle.std.specs.Prelude.{◌≡◌, ℕ, ◌+◌, ◌-◌, ◌*◌, ◌/◌, ◌≤◌, min, cond, List, [], ◌∷◌, length, nat_le, nat_lt, slice_index}
use Rattle.ranked.specs.Totals.{total}

-- the sum of a list of numbers
abbrev pub sum : List ℕ → ℕ
sum ns = total (λ n. n) ns

-- what every sharing rule keeps: a share for each claim, none above its size, together n or all that is claimed
pub record Shared (n : ℕ) (sizes shares : List ℕ) : Type 0 where
  pub same : length shares ≡ length sizes
  pub within : (k : ℕ) → slice_index shares k ≤ slice_index sizes k
  pub whole : sum shares ≡ min n (sum sizes)

-- by arrival: from the front until n is used up
abbrev pub arrival : ℕ → List ℕ → List ℕ
arrival n [] = []
arrival n (x ∷ xs) = min n x ∷ arrival (n - min n x) xs

-- each size's part of n out of t, rounded down
abbrev pub floors : ℕ → ℕ → List ℕ → List ℕ
floors n t [] = []
floors n t (x ∷ xs) = n * x / t ∷ floors n t xs

-- one contract more where one is left and the share is not full
abbrev pub extra : ℕ → ℕ → ℕ → ℕ
extra left share size = cond (nat_lt share size) (min left 1) 0

-- each size's part rounded down, and of the contracts left one more to each of the earliest not yet full
abbrev pub rounded : ℕ → ℕ → ℕ → List ℕ → List ℕ
rounded n t left [] = []
rounded n t left (x ∷ xs) = (n * x / t + extra left (n * x / t) x) ∷ rounded n t (left - extra left (n * x / t) x) xs

-- pro rata: everyone its size where n is enough, or else its part of n
abbrev pub pro_rata : ℕ → List ℕ → List ℕ
pro_rata n sizes = cond (nat_le (sum sizes) n) sizes (rounded n (sum sizes) (n - sum (floors n (sum sizes) sizes)) sizes)
