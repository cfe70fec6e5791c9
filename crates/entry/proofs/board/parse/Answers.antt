use Rattle.std.proofs.Common.{rules}
use Rattle.entry.specs.Entries.{entry_of}
use Rattle.entry.proofs.board.parse.Goals as goal

pub returns-in_default-verb : goal.returns-in_default-verb
unfolding entry_of
returns-in_default-verb c = rw (← c.uncommented.ensures, c.in-Some.ensures.steps) (search rules)
