use Rattle.std.proofs.Common.{sym, ◌∙◌, arith, rules}
use Rattle.ranked.specs.View.{entries}
use Rattle.ranked.proofs.Levels.{level_none, level_whole}
use Rattle.ranked.proofs.Views.{length-entries, stands_not}
use Rattle.ranked.proofs.list.RankedList.level.Goals as goal

pub returns-in-Some-clause-all_that_is_level : goal.returns-in-Some-clause-all_that_is_level
returns-in-Some-clause-all_that_is_level g c =
    let l = c.args.self.now in
    let whole = level_whole g.T.Rank.better g.met.T.Rank.apart g.met.T.Rank.carries g.met.T.Rank.levels c.args.at (entries l) l.order in
    search rules

pub returns-in-None-clause-value : goal.returns-in-None-clause-value
returns-in-None-clause-value g c =
    let l = c.args.self.now in
    level_none g.T.Rank.better (entries l) c.args.at (omega (arith, stands_not l c.args.at (sym c.in-None.is ∙ c.get.ensures), length-entries l))
