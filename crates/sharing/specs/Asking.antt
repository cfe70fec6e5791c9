-- What an ask of a sharing rule answers and writes.
use Rattle.std.specs.Prelude.{ℕ, Bool, true, cond, ◌&&◌, List, [], ◌∷◌, map, length, Some, None, Option, ◌==◌, nat_le}
use Rattle.sharing.specs.declared.claim.Claim.{Claim}
use Rattle.sharing.specs.declared.refusal.Refusal.{Refusal}
use Rattle.sharing.specs.declared.refusal.Refusal.TheVariants.{Unfit}
use Rattle.sharing.specs.Shares.{Shared}

-- the number by which a refusal is published
abbrev pub number_of : Refusal → ℕ
number_of Unfit = 40

-- the sizes of claims
abbrev pub sizes : List Claim → List ℕ
sizes claims = map (λ claim. claim.size) claims

-- the shares of every rule of a kind are fair
abbrev pub Fair : {X : Type 0} → (X → ℕ → List Claim → List ℕ) → Type 0
Fair {X} means = (rule : X) (n : ℕ) (claims : List Claim) → Shared n (sizes claims) (means rule n claims)

-- whether no size is over 100,000
abbrev pub sizes_fit : List ℕ → Bool
sizes_fit [] = true
sizes_fit (x ∷ xs) = nat_le x 100000 && sizes_fit xs

-- whether an ask is fit: at most 512 claims, a place for each, and no size over 100,000
abbrev pub fits : List Claim → ℕ → Bool
fits claims places = nat_le (length claims) 512 && (length claims == places && sizes_fit (sizes claims))

-- why an ask is refused, if so
abbrev pub ask_refusal : List Claim → ℕ → Option Refusal
ask_refusal claims places = cond (fits claims places) None (Some Unfit)

-- the places after an ask: the shares meant, or as they were where it is refused
abbrev pub places_after : List Claim → List ℕ → List ℕ → List ℕ
places_after claims meant places = cond (fits claims (length places)) meant places
