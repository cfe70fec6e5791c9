-- The first of a list in the order of rank is the best.
use Rattle.std.proofs.Common.{◌≡◌, ℕ, ◌≤◌, min, max, true, not, List, [], ◌∷◌, map, Some, None, Option, sym, refl, ap, ◌∙◌, arith}
use native.Mathlib.Nat.{max-eq_left, min-eq_left}
use Rattle.std.specs.List.{list_all, slice_get}
use Rattle.std.specs.Option.{option_map}
use Rattle.std.proofs.lemmas.Bool.{and_parts, not-true, ltb-false}
use Rattle.ranked.specs.Order.{in_rank}
use Rattle.away.specs.Away.{AwayBid, AwayOffer, better_bid, better_offer}
use Rattle.away.specs.Board.{best_of}
use Rattle.market.specs.Market.{higher, lower, highest, lowest}

-- a higher bid hides a lower one
over : (o : Option ℕ) (p q : ℕ) → q ≤ p → higher (Some p) o ≡ Some p → higher (Some p) (higher (Some q) o) ≡ Some p
over None p q le h = ap Some (max-eq_left le)
over (Some z) p q le h = let m : max p z ≡ p = cc in let n : max p (max q z) ≡ p = omega arith in ap Some n

under : (o : Option ℕ) (p q : ℕ) → p ≤ q → lower (Some p) o ≡ Some p → lower (Some p) (lower (Some q) o) ≡ Some p
under None p q le h = ap Some (min-eq_left le)
under (Some z) p q le h = let m : min p z ≡ p = cc in let n : min p (min q z) ≡ p = omega arith in ap Some n

first-highest : (x : AwayBid) (xs : List AwayBid) → list_all (λ y. not (better_bid y x)) xs ≡ true → higher (Some x.price) (highest (map (λ y. y.price) xs)) ≡ Some x.price
first-highest x [] h = refl
first-highest x (y ∷ ys) h =
    let a = and_parts (not (better_bid y x)) (list_all (λ z. not (better_bid z x)) ys) h in
    over (highest (map (λ z. z.price) ys)) x.price y.price (ltb-false x.price y.price (not-true (better_bid y x) a.0)) (first-highest x ys a.1)

first-lowest : (x : AwayOffer) (xs : List AwayOffer) → list_all (λ y. not (better_offer y x)) xs ≡ true → lower (Some x.price) (lowest (map (λ y. y.price) xs)) ≡ Some x.price
first-lowest x [] h = refl
first-lowest x (y ∷ ys) h =
    let a = and_parts (not (better_offer y x)) (list_all (λ z. not (better_offer z x)) ys) h in
    under (lowest (map (λ z. z.price) ys)) x.price y.price (ltb-false y.price x.price (not-true (better_offer y x) a.0)) (first-lowest x ys a.1)

best_bid : (xs : List AwayBid) → in_rank better_bid xs ≡ true → option_map (λ x. x.price) (slice_get xs 0) ≡ highest (map (λ x. x.price) xs)
best_bid [] h = refl
best_bid (x ∷ xs) h = sym (first-highest x xs (and_parts (list_all (λ y. not (better_bid y x)) xs) (in_rank better_bid xs) h).0)

best_offer : (xs : List AwayOffer) → in_rank better_offer xs ≡ true → option_map (λ x. x.price) (slice_get xs 0) ≡ lowest (map (λ x. x.price) xs)
best_offer [] h = refl
best_offer (x ∷ xs) h = sym (first-lowest x xs (and_parts (list_all (λ y. not (better_offer y x)) xs) (in_rank better_offer xs) h).0)

pub firsts_are_best :
    (bids : List AwayBid) (offers : List AwayOffer) (p q : Option ℕ) → in_rank better_bid bids ≡ true → in_rank better_offer offers ≡ true →
    p ≡ option_map (λ x. x.price) (slice_get bids 0) → q ≡ option_map (λ x. x.price) (slice_get offers 0) → ◌≡◌ {A = Option ℕ × Option ℕ} (p, q) (best_of bids offers)
firsts_are_best bids offers p q h k e f = λ i. ((e ∙ best_bid bids h) i, (f ∙ best_offer offers k) i)
