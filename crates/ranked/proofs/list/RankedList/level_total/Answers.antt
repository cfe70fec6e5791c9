use Rattle.std.proofs.Common.{length, ap, arith, length-drop}
use Rattle.ranked.specs.View.{entries}
use Rattle.ranked.proofs.Levels.{length-level}
use Rattle.ranked.proofs.Views.{length-entries}
use Rattle.ranked.proofs.list.RankedList.level_total.Goals as goal

pub sum-requires : goal.sum-requires
sum-requires g c =
    let l = c.args.self.now in
    omega (arith, ap length c.level.ensures.value, length-level g.T.Rank.better c.args.at (entries l), length-drop c.args.at (entries l), length-entries l, l.fits)
