use Rattle.std.proofs.Common.{◌≡◌, ◌+◌, ◌++◌, take, drop, ap, ◌∙◌, rules}
use Rattle.ranked.specs.Order.{in_rank, entered}
use Rattle.ranked.specs.View.{entries}
use Rattle.ranked.proofs.Kept.{entered_in_rank}
use Rattle.ranked.proofs.Levels.{entered_splits}
use Rattle.ranked.proofs.Moves.{entered_front}
use Rattle.ranked.proofs.list.RankedList.insert.Goals as goal

pub invariant_of-self-clause-order : goal.invariant_of-self-clause-order
invariant_of-self-clause-order g c =
    let b = g.T.Rank.better in
    let l = c.args.self.now in
    let e : take (l.len + 1) (c.put_in.new.places ++ drop (l.len + 1) l.places.now) ≡ entered b c.args.x (entries l) = search (rules, entered_front) in
    ap (in_rank b) e ∙ entered_in_rank b g.met.T.Rank.apart g.met.T.Rank.carries c.args.x (entries l) l.order

pub returns-clause-behind_all_that_are_better_or_level : goal.returns-clause-behind_all_that_are_better_or_level
returns-clause-behind_all_that_are_better_or_level g c =
    let b = g.T.Rank.better in
    let l = c.args.self.now in
    λ t. search (rules, entered_front)
    ∙ entered_splits b g.met.T.Rank.apart g.met.T.Rank.carries g.met.T.Rank.levels c.args.x (entries l) l.order
