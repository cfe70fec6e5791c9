-- Lists of away prices, one an exchange, and a board of two. `exchange` and `price` read an entry, `b x y` says that x is better than y.
use Rattle.std.specs.Prelude.{ℕ, Bool, true, false, cond, not, ◌&&◌, ◌||◌, List, [], ◌∷◌, map, Some, None, Option, ◌==◌, nat_le}
use Rattle.std.specs.List.{list_all}
use Rattle.ranked.specs.Order.{entered}
use Rattle.ranked.specs.View.{entries, free}
use Rattle.ranked.specs.declared.list.RankedList.{RankedList}
use Rattle.away.specs.Away.{AwayBid, AwayOffer}
use Rattle.market.specs.Market.{Pair, is_price, highest, lowest}
use Rattle.market.specs.declared.refusal.Refusal.{Refusal}
use Rattle.market.specs.declared.refusal.Refusal.TheVariants.{NoFreePlace, Unfit}

-- an exchange's letter: A to Z
abbrev pub is_exchange : ℕ → Bool
is_exchange e = nat_le 65 e && nat_le e 90

-- whether an exchange has a price in a list
abbrev pub quoted : {X : Type 0} → (X → ℕ) → ℕ → List X → Bool
quoted exchange e [] = false
quoted exchange e (x ∷ xs) = exchange x == e || quoted exchange e xs

-- a list without an exchange's price
abbrev pub without : {X : Type 0} → (X → ℕ) → ℕ → List X → List X
without exchange e [] = []
without exchange e (x ∷ xs) = cond (exchange x == e) xs (x ∷ without exchange e xs)

-- a list with an exchange's new price: it replaces the former one, and takes the rank of a new entry
abbrev pub posted : {X : Type 0} → (X → X → Bool) → (X → ℕ) → ℕ → X → List X → List X
posted b exchange e x xs = entered b x (without exchange e xs)

-- the price that an exchange has in a list
abbrev pub price_at : {X : Type 0} → (X → ℕ) → (X → ℕ) → ℕ → List X → Option ℕ
price_at exchange price e [] = None
price_at exchange price e (x ∷ xs) = cond (exchange x == e) (Some (price x)) (price_at exchange price e xs)

-- why a price is not taken, if so; `place` says whether there is a place for it
abbrev pub post_refusal : Bool → ℕ → ℕ → Option Refusal
post_refusal place e p = cond place (cond (is_exchange e && is_price p) None (Some Unfit)) (Some NoFreePlace)

-- whether a ranked list has a place for an exchange's price: its own, or a free one
abbrev pub place_in : {X : Type 0} {r : _} → (X → ℕ) → ℕ → RankedList X r → Bool
place_in exchange e l = quoted exchange e (entries l) || free l

-- why an exchange's price is not taken into a ranked list, if so
abbrev pub refusal_in : {X : Type 0} {r : _} → (X → ℕ) → RankedList X r → ℕ → ℕ → Option Refusal
refusal_in exchange l e p = post_refusal (place_in exchange e l) e p

-- why a price cannot be cleared, if so
abbrev pub clear_refusal : ℕ → Option Refusal
clear_refusal e = cond (is_exchange e) None (Some Unfit)

-- each exchange stands in a list at most once
abbrev pub once : {X : Type 0} → (X → ℕ) → List X → Bool
once exchange [] = true
once exchange (x ∷ xs) = not (quoted exchange (exchange x) xs) && once exchange xs

-- each exchange and each price is fit
abbrev pub fit_quotes : {X : Type 0} → (X → ℕ) → (X → ℕ) → List X → Bool
fit_quotes exchange price xs = list_all (λ x. is_exchange (exchange x) && is_price (price x)) xs

-- the market that a board is: the best of its bids and of its offers
abbrev pub best_of : List AwayBid → List AwayOffer → Pair
best_of bids offers = (highest (map (λ x. x.price) bids), lowest (map (λ x. x.price) offers))
