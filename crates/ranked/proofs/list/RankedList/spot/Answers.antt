use Rattle.std.proofs.Common.{not, ap, ◌∙◌, rules, of_calls}
use Rattle.std.specs.List.{prefix_len}
use Rattle.std.proofs.lemmas.Fn.{always_returns_same}
use Rattle.ranked.specs.Order.{in_rank}
use Rattle.ranked.proofs.Levels.{parted, prefix_from_point}
use Rattle.ranked.proofs.list.RankedList.spot.Goals as goal

pub returns-clause-there : goal.returns-clause-there
returns-clause-there g c =
    let b = g.T.Rank.better in
    let x = c.args.x.now in
    let xs = c.entries.result.now in
    let e = c.entries.ensures in
    let point = c.partition_point.ensures.partitioned (λ y. not (b x y)) (always_returns_same _ _ _ (λ a r f k. search (rules, of_calls)))
    (parted b g.met.T.Rank.apart g.met.T.Rank.carries g.met.T.Rank.levels x xs (ap (in_rank b) e ∙ c.args.self.now.order)) in
    prefix_from_point (λ y. not (b x y)) xs c.partition_point.result x c.partition_point.ensures.bound point ∙ ap (prefix_len (λ y. not (b x y))) e
