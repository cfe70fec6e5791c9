-- That a board keeps what every market keeps.
use Rattle.std.specs.Prelude.{◌≡◌, ℕ, true, ◌&&◌, List, [], ◌∷◌, map, Some}
use Rattle.std.proofs.lemmas.Bool.{and_parts}
use Rattle.market.specs.Fits.{fit_side, fit-higher, fit-lower}
use Rattle.market.specs.Market.{Side, is_price, highest, lowest}
use Rattle.away.specs.Away.{AwayBid, AwayOffer}
use Rattle.away.specs.Board.{is_exchange, fit_quotes, best_of}

highest-fit : {X : Type 0} (exchange price : X → ℕ) (xs : List X) → fit_quotes exchange price xs ≡ true → Side (highest (map price xs))
highest-fit exchange price [] h = tt
highest-fit exchange price (x ∷ xs) h =
    let a = and_parts (is_exchange (exchange x) && is_price (price x)) (fit_quotes exchange price xs) h in
    fit-higher (Some (price x)) (highest (map price xs)) (fit_side (Some (price x)) (and_parts (is_exchange (exchange x)) (is_price (price x)) a.0).1) (highest-fit exchange price xs a.1)

lowest-fit : {X : Type 0} (exchange price : X → ℕ) (xs : List X) → fit_quotes exchange price xs ≡ true → Side (lowest (map price xs))
lowest-fit exchange price [] h = tt
lowest-fit exchange price (x ∷ xs) h =
    let a = and_parts (is_exchange (exchange x) && is_price (price x)) (fit_quotes exchange price xs) h in
    fit-lower (Some (price x)) (lowest (map price xs)) (fit_side (Some (price x)) (and_parts (is_exchange (exchange x)) (is_price (price x)) a.0).1) (lowest-fit exchange price xs a.1)

pub fit_board :
    (bids : List AwayBid) (offers : List AwayOffer) → fit_quotes (λ x. x.exchange) (λ x. x.price) bids ≡ true → fit_quotes (λ x. x.exchange) (λ x. x.price) offers ≡ true →
    Side (best_of bids offers).0 × Side (best_of bids offers).1
fit_board bids offers p q = (highest-fit (λ x. x.exchange) (λ x. x.price) bids p, lowest-fit (λ x. x.exchange) (λ x. x.price) offers q)
