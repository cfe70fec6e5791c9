use Rattle.std.proofs.Common.{◌+◌, ◌≤◌, length, not, refl, ap, ◌∙◌, arith, rules, of_calls}
use Rattle.std.specs.List.{prefix_len}
use Rattle.std.proofs.lemmas.List.Sums.{prefix_len-le-length}
use Rattle.std.proofs.lemmas.Fn.{always_returns_same}
use Rattle.ranked.specs.Order.{in_rank}
use Rattle.ranked.specs.View.{entries}
use Rattle.ranked.proofs.Levels.{before_end, end_before, end_in_part, level_there}
use Rattle.ranked.proofs.Views.{length-entries, stands}
use Rattle.ranked.proofs.list.RankedList.level_end.Goals as goal
use Rattle.ranked.proofs.list.RankedList.level_end.Goals.{then-loop-last-test+else-not-beats, else-loop-last-test}

pub loop-last-init : goal.loop-last-init
loop-last-init g c =
    let b = g.T.Rank.better in
    let l = c.args.self.now in
    let x = c.args.first.now in
    let e = c.entries-entries.ensures in
    let first = (level_there b g.met.T.Rank.apart g.met.T.Rank.carries g.met.T.Rank.levels c.args.at (prefix_len (λ y. not (b x y)) (entries l)) x (entries l) l.order c.requires refl).0 in
    (omega arith, omega (arith, stands l c.args.at x c.requires, length-entries l, ap length e), omega (arith, first, ap (prefix_len (λ y. not (b x y))) e), omega arith, omega arith)

pub loop-last-preserved : goal.loop-last-preserved
loop-last-preserved g c =
    let b = g.T.Rank.better in
    let x = c.args.first.now in
    let y = c.index-entries-last.result in
    let i = c.loop-last.last + c.loop-last.step in
    let next = before_end b g.met.T.Rank.apart g.met.T.Rank.carries g.met.T.Rank.levels x c.entries-entries.result.now i y (ap (in_rank b) c.entries-entries.ensures ∙ c.args.self.now.order) c.loop-last-test.true c.index-entries-last.is c.if-not-beats.ensures in
    (omega (arith, c.loop-last.invariant.0), c.loop-last-test.true, next, omega (arith, c.loop-last.invariant.3), omega (arith, c.loop-last.invariant.4))

pub returns-clause-there : goal.returns-clause-there
returns-clause-there g c =
    let b = g.T.Rank.better in
    let l = c.args.self.now in
    let x = c.args.first.now in
    let xs = c.entries-entries.result.now in
    let e = c.entries-entries.ensures in
    let high : prefix_len (λ y. not (b x y)) xs ≤ c.min-end.result = elim c.loop-last-test.branch [
      | then-loop-last-test+else-not-beats w ↦ omega (arith, end_before b g.met.T.Rank.apart g.met.T.Rank.carries g.met.T.Rank.levels x xs (c.loop-last.last + c.loop-last.step) w.index-entries-last.result w.index-entries-last.is w.if-not-beats.ensures, w.loop-last-test.true, c.min-end.ensures)
      | else-loop-last-test w ↦ omega (arith, prefix_len-le-length (λ y. not (b x y)) xs, w.loop-last-test.false, c.min-end.ensures)
    ] in
    let found = end_in_part b g.met.T.Rank.apart g.met.T.Rank.carries g.met.T.Rank.levels x xs (c.loop-last.last + 1) c.min-end.result c.partition_point.result
    (ap (in_rank b) e ∙ l.order) (omega (arith, c.loop-last.invariant.2)) high (omega arith) c.partition_point.ensures.bound
    (c.partition_point.ensures.partitioned (λ y. not (b x y)) (always_returns_same _ _ _ (λ a r f k. search (rules, of_calls)))) in
    (level_there b g.met.T.Rank.apart g.met.T.Rank.carries g.met.T.Rank.levels c.args.at (c.loop-last.last + 1 + c.partition_point.result) x (entries l) l.order c.requires (found ∙ ap (prefix_len (λ y. not (b x y))) e)).1
