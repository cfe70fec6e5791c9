use Rattle.std.proofs.Common.{◌≡◌, ◌++◌, length, take, drop, ap, ◌∙◌, rules}
use Rattle.ranked.specs.Level.{level_at, filled_level}
use Rattle.ranked.specs.Order.{in_rank}
use Rattle.ranked.specs.View.{entries}
use Rattle.ranked.proofs.Fills.{filled_in_rank, filled_front, filled_past}
use Rattle.ranked.proofs.Views.{length-entries}
use Rattle.ranked.proofs.list.RankedList.fill_level.Goals as goal

pub invariant_of-self-clause-order : goal.invariant_of-self-clause-order
invariant_of-self-clause-order g c =
    let b = g.T.Rank.better in
    let f = g.T.Fill.fill in
    let l = c.args.self.now in
    let at = c.args.at in
    let ns = c.args.shares.now in
    let n = length-entries l in
    let e : take l.len (c.fill_part.new.entries ++ drop l.len l.places.now) ≡ filled_level b f at ns (entries l) = search (rules, filled_front) in
    ap (in_rank b) e ∙ filled_in_rank b f g.met.T.Fill.keeps at (take (length (level_at b at (entries l))) ns) (entries l) ∙ l.order

pub returns-in-Some-clause-after : goal.returns-in-Some-clause-after
returns-in-Some-clause-after g c = let n = length-entries c.args.self.now in search (rules, filled_front)

pub returns-in_default-clause-after : goal.returns-in_default-clause-after
returns-in_default-clause-after g c = search (rules, filled_past)
