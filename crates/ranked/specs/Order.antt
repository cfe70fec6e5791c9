-- Lists in the order of rank. `b x y` says that x is better than y.
use Rattle.std.specs.Prelude.{ℕ, Bool, true, cond, not, ◌&&◌, List, [], ◌∷◌, ◌++◌, is_some, Some, None, filter, Option, slice_set}
use Rattle.std.specs.List.{list_all, slice_get}

-- two are level: neither is better
abbrev pub level : {X : Type 0} → (X → X → Bool) → X → X → Bool
level b x y = not (b x y) && not (b y x)

-- a list is in the order of rank: nothing stands before what is better than it
abbrev pub in_rank : {X : Type 0} → (X → X → Bool) → List X → Bool
in_rank b [] = true
in_rank b (x ∷ xs) = list_all (λ y. not (b y x)) xs && in_rank b xs

-- a list with a new entry behind all that are better or level
abbrev pub entered : {X : Type 0} → (X → X → Bool) → X → List X → List X
entered b x [] = x ∷ []
entered b x (y ∷ ys) = cond (b x y) (x ∷ y ∷ ys) (y ∷ entered b x ys)

-- x in its place: all that are better or level, then x, then all that are worse, each in their order
abbrev pub in_its_place : {X : Type 0} → (X → X → Bool) → X → List X → List X
in_its_place b x xs = filter (λ y. not (b x y)) xs ++ x ∷ filter (b x) xs

-- an entry, if it is there and level with x
abbrev pub if_level : {X : Type 0} → (X → X → Bool) → X → Option X → Option X
if_level b x None = None
if_level b x (Some y) = cond (level b y x) (Some y) None

-- the entry at a place that x may replace: one that is level with it
abbrev pub replaceable : {X : Type 0} → (X → X → Bool) → List X → ℕ → X → Option X
replaceable b xs at x = if_level b x (slice_get xs at)

-- a list in which x has replaced the entry at a place, where it may
abbrev pub replaced : {X : Type 0} → (X → X → Bool) → List X → ℕ → X → List X
replaced b xs at x = cond (is_some (replaceable b xs at x)) (slice_set xs at x) xs
