use Rattle.std.proofs.Common.{true, Some, codes, decimal, length, subst, arith}
use Rattle.std.proofs.Output.{has_written_of_eq}
use Rattle.std.specs.Fmt.{DisplaysOnOk, ◌++?◌}
use Rattle.text.proofs.Showing.{pair}
use Rattle.board.proofs.Lining.{unknown_line_lem}
use Rattle.board.proofs.message.UnknownLineDisplay.fmt.Goals as goal

pub returns-clause-writes : goal.returns-clause-writes
returns-clause-writes g c plain ok =
    let took = g.W.Write.write_str_gives in
    let m = c.args.self.now.0.now in
    let shown = pair true c.byte_at-kind.result c.in_radix.result c.laid_out.result (omega arith) c.in_radix.ensures c.laid_out.ensures in
    has_written_of_eq took c.args.f.now _ _ c.write.new.self (unknown_line_lem m c.byte_at-kind.result c.byte_at-kind.ensures)
    (subst (λ o. DisplaysOnOk took c.args.f.now c.write.result (Some (codes "unknown 0x") ++? (o ++? Some (codes ", ") ++? Some (decimal (length m)) ++? Some (codes " bytes"))) c.write.new.self) shown c.write.ensures.writes plain ok)
