use Rattle.std.proofs.Common.{◌≡◌, sym, ◌&&◌, true, ◌||◌, rules}
use Rattle.ranked.specs.View.{entries, free}
use Rattle.away.specs.Board.{is_exchange, quoted, posted, post_refusal}
use Rattle.market.specs.Market.{is_price}
use Rattle.market.specs.Refusals.{unless}
use Rattle.away.proofs.Tidying.{posted_once, posted_fit, posted_moves}
use Rattle.away.proofs.quotes.PriceList.post.Goals as goal

pub invariant_of-self-clause-once : goal.invariant_of-self-clause-once
invariant_of-self-clause-once g c =
    let ex = g.T.Quote.exchange in
    let l = c.args.self.now in
    let mid = c.take_out.new.self.list in
    let place : free mid ≡ true = search rules in
    posted_once g.T.Rank.better ex g.T.Quote.price (free mid) c.exchange-letter.result c.args.quote (entries l.list) (entries mid) (entries c.insert.new.self) (sym c.exchange-letter.ensures) place c.take_out.ensures.after c.insert.ensures.after l.once

pub invariant_of-self-clause-fit : goal.invariant_of-self-clause-fit
invariant_of-self-clause-fit g c =
    let ex = g.T.Quote.exchange in
    let price = g.T.Quote.price in
    let x = c.args.quote in
    let l = c.args.self.now in
    let mid = c.take_out.new.self.list in
    let place : free mid ≡ true = search rules in
    let fit : (is_exchange (ex x) && is_price (price x)) ≡ true = search rules in
    posted_fit g.T.Rank.better ex price (free mid) c.exchange-letter.result x (entries l.list) (entries mid) (entries c.insert.new.self) (sym c.exchange-letter.ensures) place c.take_out.ensures.after c.insert.ensures.after fit l.fit

pub returns-clause-moves : goal.returns-clause-moves
returns-clause-moves g c =
    let b = g.T.Rank.better in
    let ex = g.T.Quote.exchange in
    let price = g.T.Quote.price in
    let x = c.args.quote in
    let old = entries c.args.self.now.list in
    let r = post_refusal (quoted ex (ex x) old || free c.args.self.now.list) (ex x) (price x) in
    let after : entries c.insert.new.self ≡ unless r (posted b ex (ex x) x old) old = search rules in
    posted_moves b ex price r x old (entries c.insert.new.self) after c.args.self.now.once
