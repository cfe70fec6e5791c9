use Rattle.std.proofs.Common.{◌+◌, ◌-◌, ◌<◌, ◌≤◌, length, not}
use Rattle.std.specs.List.{prefix_len}
use Rattle.ranked.proofs.list.RankedList.level_end.Given as goal

-- what stands at `last` is not worse than the first, and the step has at most doubled with each one taken
abbrev pub invariant-loop-last : goal.invariant-loop-last
invariant-loop-last g l =
    (l.at ≤ l.last) × (l.last < length l.entries) × (l.last < prefix_len (λ y. not (g.T.Rank.better l.first y)) l.entries) × (0 < l.step) × (l.step ≤ l.last + 1)

abbrev pub decreases-loop-last : goal.decreases-loop-last
decreases-loop-last g l = length l.entries - l.last
