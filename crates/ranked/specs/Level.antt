-- The levels of a list in the order of rank, and their fills.
use Rattle.std.specs.Prelude.{ℕ, Bool, cond, List, [], ◌∷◌, ◌++◌, length, take, drop, Some, None, filter}
use Rattle.std.specs.List.{slice_get}
use Rattle.ranked.specs.Order.{level}

-- what stands at the front of a list and is not worse than x
abbrev pub not_worse : {X : Type 0} → (X → X → Bool) → X → List X → List X
not_worse b x [] = []
not_worse b x (y ∷ ys) = cond (b x y) [] (y ∷ not_worse b x ys)

-- the first level of a list: its first entry and what is not worse behind it
abbrev pub first_level : {X : Type 0} → (X → X → Bool) → List X → List X
first_level b [] = []
first_level b (x ∷ xs) = x ∷ not_worse b x xs

-- the level from a place on
abbrev pub level_at : {X : Type 0} → (X → X → Bool) → ℕ → List X → List X
level_at b at xs = first_level b (drop at xs)

-- the entries from a place on that are level with the one there
abbrev pub level_with : {X : Type 0} → (X → X → Bool) → ℕ → List X → List X
level_with b at xs = elim (slice_get xs at) [ None ↦ [] | Some x ↦ filter (level b x) (drop at xs) ]

-- each entry filled by its share, as far as both go
abbrev pub fills : {X : Type 0} → (X → ℕ → X) → List X → List ℕ → List X
fills f [] ns = []
fills f (x ∷ xs) [] = x ∷ xs
fills f (x ∷ xs) (n ∷ ns) = f x n ∷ fills f xs ns

-- a list filled from a place on
abbrev pub filled_from : {X : Type 0} → (X → ℕ → X) → ℕ → List ℕ → List X → List X
filled_from f at ns xs = take at xs ++ fills f (drop at xs) ns

-- a list whose level from a place on is filled; shares past the level's end fill nothing
abbrev pub filled_level : {X : Type 0} → (X → X → Bool) → (X → ℕ → X) → ℕ → List ℕ → List X → List X
filled_level b f at ns xs = filled_from f at (take (length (level_at b at xs)) ns) xs
