use Rattle.std.proofs.Common.{◌≡◌, rules}
use Rattle.ranked.specs.View.{entries}
use Rattle.away.specs.Board.{clear_refusal, without}
use Rattle.market.specs.Refusals.{unless}
use Rattle.away.proofs.Tidying.{cleared_moves}
use Rattle.away.proofs.quotes.PriceList.clear.Goals as goal

pub returns-clause-moves : goal.returns-clause-moves
returns-clause-moves g c =
    let ex = g.T.Quote.exchange in
    let old = entries c.args.self.now.list in
    let new = entries c.take_out.new.self.list in
    let r = clear_refusal c.args.letter in
    let after : new ≡ unless r (without ex c.args.letter old) old = search rules in
    cleared_moves ex g.T.Quote.price r c.args.letter old new after c.args.self.now.once
