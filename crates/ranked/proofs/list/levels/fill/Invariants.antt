use Rattle.std.proofs.Common.{◌≡◌, take}
use Rattle.ranked.specs.Level.{fills}
use Rattle.ranked.proofs.list.levels.fill.Given as goal

abbrev pub invariant-loop-i : goal.invariant-loop-i
invariant-loop-i g l = l.entries ≡ fills g.T.Fill.fill l.initial.entries (take l.i l.shares)
