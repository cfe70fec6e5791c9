-- A board as two plain lists.
use Rattle.std.specs.Prelude.{ℕ, Bool, List, Option}
use Rattle.ranked.specs.View.{entries, room}
use Rattle.away.specs.Board.{place_in, price_at, refusal_in}
use Rattle.away.specs.Away.{AwayBid, AwayOffer}
use Rattle.away.specs.declared.board.AwayBoard.{AwayBoard}
use Rattle.market.specs.declared.refusal.Refusal.{Refusal}

-- its bids and its offers, the best first
abbrev pub bids_of : AwayBoard → List AwayBid
bids_of b = entries b.bids.list

abbrev pub offers_of : AwayBoard → List AwayOffer
offers_of b = entries b.offers.list

-- how many of each there may be
abbrev pub bid_room : AwayBoard → ℕ
bid_room b = room b.bids.list

abbrev pub offer_room : AwayBoard → ℕ
offer_room b = room b.offers.list

-- whether there is a place for an exchange's price: its own, or a free one
abbrev pub bid_place : ℕ → AwayBoard → Bool
bid_place e b = place_in (λ x. x.exchange) e b.bids.list

abbrev pub offer_place : ℕ → AwayBoard → Bool
offer_place e b = place_in (λ x. x.exchange) e b.offers.list

-- why an exchange's price is not taken, if so
abbrev pub bid_refusal : AwayBoard → ℕ → ℕ → Option Refusal
bid_refusal b e p = refusal_in (λ x. x.exchange) b.bids.list e p

abbrev pub offer_refusal : AwayBoard → ℕ → ℕ → Option Refusal
offer_refusal b e p = refusal_in (λ x. x.exchange) b.offers.list e p

-- the price that an exchange has
abbrev pub bid_price : ℕ → AwayBoard → Option ℕ
bid_price e b = price_at (λ x. x.exchange) (λ x. x.price) e (bids_of b)

abbrev pub offer_price : ℕ → AwayBoard → Option ℕ
offer_price e b = price_at (λ x. x.exchange) (λ x. x.price) e (offers_of b)
