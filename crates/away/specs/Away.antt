-- Away prices: an exchange and its price. The const parameter of `AwayPrice` is a number here: 1 where the higher price is the better, 0 where the lower is.
use Rattle.std.specs.Prelude.{ℕ, Bool, true, false, nat_lt}
use Rattle.away.specs.declared.prices.AwayPrice.{AwayPrice}

abbrev pub AwayBid : Type 0
AwayBid = AwayPrice 1

abbrev pub AwayOffer : Type 0
AwayOffer = AwayPrice 0

-- of bids the higher is better
abbrev pub better_bid : AwayBid → AwayBid → Bool
better_bid x y = nat_lt y.price x.price

-- of offers the lower
abbrev pub better_offer : AwayOffer → AwayOffer → Bool
better_offer x y = nat_lt x.price y.price

-- of a side on which the higher price is the better, or the lower is
abbrev pub better : {side : ℕ} → Bool → AwayPrice side → AwayPrice side → Bool
better true x y = nat_lt y.price x.price
better false x y = nat_lt x.price y.price
