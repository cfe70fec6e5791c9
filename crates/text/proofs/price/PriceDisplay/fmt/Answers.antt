use Rattle.std.proofs.Common.{◌/◌, ◌%◌, ◌∷◌, ◌++◌, decimal, ◌∙◌}
use Rattle.std.proofs.Output.{has_written_of_eq}
use Rattle.std.specs.Fmt.{styled_decimal}
use Rattle.text.proofs.Showing.{with_cents, with_rest}
use Rattle.text.proofs.price.PriceDisplay.fmt.Goals as goal

pub returns-then-rest-eq0-clause-writes : goal.returns-then-rest-eq0-clause-writes
returns-then-rest-eq0-clause-writes g c plain ok =
    let n = c.args.self.now.0 in
    has_written_of_eq g.W.Write.write_str_gives _ _ _ _
    ((λ i. decimal (n / 10000) ++ (46 ∷ styled_decimal (c.laid_out.ensures i) (n / 100 % 100))) ∙ with_cents n c.if-rest-eq0.true)
    (c.write.ensures.writes plain ok)

pub returns-else-rest-eq0-clause-writes : goal.returns-else-rest-eq0-clause-writes
returns-else-rest-eq0-clause-writes g c plain ok =
    let n = c.args.self.now.0 in
    has_written_of_eq g.W.Write.write_str_gives _ _ _ _
    ((λ i. decimal (n / 10000) ++ (46 ∷ (styled_decimal (c.laid_out-else-rest-eq0.ensures i) (n / 100 % 100) ++ styled_decimal (c.laid_out-else-rest-eq0-2.ensures i) (n % 100)))) ∙ with_rest n c.if-rest-eq0.false)
    (c.write-else-rest-eq0.ensures.writes plain ok)
