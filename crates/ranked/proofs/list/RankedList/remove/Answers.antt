use Rattle.std.proofs.Common.{◌≡◌, ◌-◌, ◌++◌, true, take, drop, sym, ap, ◌∙◌, arith, rules}
use Rattle.std.proofs.lemmas.Grind.{common_steps}
use Rattle.std.specs.List.{remove}
use Rattle.ranked.specs.Order.{in_rank}
use Rattle.ranked.specs.View.{entries}
use Rattle.ranked.proofs.Kept.{removed_in_rank}
use Rattle.ranked.proofs.Places.{removed_none}
use Rattle.ranked.proofs.list.RankedList.remove.Goals as goal

pub returns-in_err-gone-clause-after : goal.returns-in_err-gone-clause-after
returns-in_err-gone-clause-after g c = sym (removed_none (entries c.args.self.now) c.args.at c.in_err-gone.ensures)

pub invariant_of-self-clause-order : goal.invariant_of-self-clause-order
invariant_of-self-clause-order g c =
    let b = g.T.Rank.better in
    let l = c.args.self.now in
    let e : take (l.len - 1) (c.close_up.new.entries ++ drop l.len l.places.now) ≡ remove (entries l) c.args.at = grind (arith, common_steps) in
    let kept : in_rank b (take (l.len - 1) (c.close_up.new.entries ++ drop l.len l.places.now)) ≡ true = ap (in_rank b) e ∙ removed_in_rank b (entries l) c.args.at l.order in
    search rules
