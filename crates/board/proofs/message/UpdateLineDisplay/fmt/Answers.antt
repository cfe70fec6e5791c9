use Rattle.std.proofs.Common.{refl}
use Rattle.std.proofs.Output.{has_written_of_eq, has_written_append}
use Rattle.board.proofs.Lining.{opening, middle, closing, update_line_lem}
use Rattle.board.proofs.message.UpdateLineDisplay.fmt.Goals as goal

pub returns-clause-writes : goal.returns-clause-writes
returns-clause-writes g c plain ok =
    let u = c.args.self.now.0 in
    let took = g.W.Write.write_str_gives in
    let x = c.in_ok-write.ensures.writes plain refl in
    let y = c.in_ok-write-2.ensures.writes x.plain refl in
    let z = c.write-3.ensures.writes y.plain ok in
    let xy = has_written_append took c.args.f.now (opening u) c.write.new.self (middle u) c.write-2.new.self x y in
    has_written_of_eq took _ _ _ _ (update_line_lem u) (has_written_append took c.args.f.now _ c.write-2.new.self (closing u) c.write-3.new.self xy z)
