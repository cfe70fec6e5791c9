use Rattle.std.proofs.Common.{sym, ap, ◌∙◌, rules}
use Rattle.ranked.specs.Order.{in_rank}
use Rattle.ranked.specs.View.{entries}
use Rattle.ranked.proofs.Kept.{replaced_in_rank}
use Rattle.ranked.proofs.Places.{replaced_there}
use Rattle.ranked.proofs.Views.{stands, stands_in}
use Rattle.ranked.proofs.list.RankedList.replace.Goals as goal

pub offset_bounds-self-at : goal.offset_bounds-self-at
offset_bounds-self-at g c = let lt = stands_in c.args.self.now c.args.at c.in_ok-old.old c.in_ok-old.ensures in search rules

pub invariant_of-self-clause-order : goal.invariant_of-self-clause-order
invariant_of-self-clause-order g c =
    let b = g.T.Rank.better in
    let l = c.args.self.now in
    let lt = stands l c.args.at c.in_ok-old.old c.in_ok-old.ensures in
    ap (in_rank b) (replaced_there b l.len l.places.now c.args.at c.args.x c.in_ok-old.old lt c.in_ok-old.ensures (sym c.if-not-are_level.ensures))
    ∙ replaced_in_rank b g.met.T.Rank.apart g.met.T.Rank.carries g.met.T.Rank.levels (entries l) c.args.at c.args.x l.order

pub returns-clause-after : goal.returns-clause-after
returns-clause-after g c =
    let l = c.args.self.now in
    let lt = stands l c.args.at c.in_ok-old.old c.in_ok-old.ensures in
    replaced_there g.T.Rank.better l.len l.places.now c.args.at c.args.x c.in_ok-old.old lt c.in_ok-old.ensures (sym c.if-not-are_level.ensures)
