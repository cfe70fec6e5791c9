use Rattle.std.proofs.Common.{sym, ap, ◌∙◌, ◌||◌, arith}
use Rattle.ranked.specs.View.{entries, count, room, free}
use Rattle.ranked.proofs.Views.{length-entries}
use Rattle.away.specs.Board.{once, fit_quotes}
use Rattle.away.proofs.Finding.{found_at, found_none, taken_out_at, place_after}
use Rattle.away.proofs.Tidying.{once-without, fit_without}
use Rattle.away.proofs.quotes.PriceList.take_out.Goals as goal

pub invariant_of-self-clause-once : goal.invariant_of-self-clause-once
invariant_of-self-clause-once g c =
    let ex = g.T.Quote.exchange in
    let l = c.args.self.now.list in
    ap (once ex) (taken_out_at ex c.args.letter (entries l) (entries c.remove.new.self) c.in-Some.at c.remove.ensures.after (sym c.in-Some.is ∙ c.place_of.ensures)) ∙ once-without ex c.args.letter (entries l) c.args.self.now.once

pub invariant_of-self-clause-fit : goal.invariant_of-self-clause-fit
invariant_of-self-clause-fit g c =
    let ex = g.T.Quote.exchange in
    let price = g.T.Quote.price in
    let l = c.args.self.now.list in
    ap (fit_quotes ex price) (taken_out_at ex c.args.letter (entries l) (entries c.remove.new.self) c.in-Some.at c.remove.ensures.after (sym c.in-Some.is ∙ c.place_of.ensures)) ∙ fit_without ex price c.args.letter (entries l) c.args.self.now.fit

pub returns-in-Some-clause-after : goal.returns-in-Some-clause-after
returns-in-Some-clause-after g c =
    let l = c.args.self.now.list in
    taken_out_at g.T.Quote.exchange c.args.letter (entries l) (entries c.remove.new.self) c.in-Some.at c.remove.ensures.after (sym c.in-Some.is ∙ c.place_of.ensures)

pub returns-in-Some-clause-place : goal.returns-in-Some-clause-place
returns-in-Some-clause-place g c =
    let l = c.args.self.now.list in
    let n = c.remove.new.self in
    let f = found_at g.T.Quote.exchange c.args.letter (entries l) c.in-Some.at (sym c.in-Some.is ∙ c.place_of.ensures) in
    place_after c.in-Some.at (count l) (room n) (count n) (omega (arith, f.0, length-entries l)) (omega (arith, l.fits, c.remove.ensures.room)) c.remove.ensures.count
    ∙ sym (ap (λ q. q || free l) f.1)

pub returns-in_default-clause-after : goal.returns-in_default-clause-after
returns-in_default-clause-after g c = sym (found_none g.T.Quote.exchange c.args.letter (entries c.args.self.now.list) (sym c.in_default.is ∙ c.place_of.ensures)).1
