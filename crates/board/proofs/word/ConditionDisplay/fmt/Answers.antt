use Rattle.std.proofs.Common.{true, Some, codes, sym, subst, arith}
use Rattle.std.proofs.Output.{has_written_of_eq}
use Rattle.std.specs.Fmt.{DisplaysOnOk, ◌++?◌}
use Rattle.text.proofs.Showing.{pair}
use Rattle.board.proofs.Showing.{visible, hidden}
use Rattle.board.proofs.word.ConditionDisplay.fmt.Goals as goal

pub returns-then-is_ascii_graphic-clause-writes : goal.returns-then-is_ascii_graphic-clause-writes
returns-then-is_ascii_graphic-clause-writes g c plain ok =
    has_written_of_eq g.W.Write.write_str_gives _ _ _ _ (visible c.args.self.now.0 c.from.result c.from.ensures (sym c.if-is_ascii_graphic.ensures.value)) (c.write_char.ensures.writes plain ok)

pub returns-else-is_ascii_graphic-clause-writes : goal.returns-else-is_ascii_graphic-clause-writes
returns-else-is_ascii_graphic-clause-writes g c plain ok =
    let took = g.W.Write.write_str_gives in
    let shown = pair true c.args.self.now.0 c.in_radix.result c.laid_out.result (omega arith) c.in_radix.ensures c.laid_out.ensures in
    has_written_of_eq took _ _ _ _ (hidden c.args.self.now.0 (sym c.if-is_ascii_graphic.ensures.value))
    (subst (λ o. DisplaysOnOk took c.args.f.now c.write.result (Some (codes "0x") ++? o) c.write.new.self) shown c.write.ensures.writes plain ok)
