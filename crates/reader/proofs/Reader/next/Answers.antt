use Rattle.std.proofs.Common.{◌≡◌, ◌-◌, ap, ◌∙◌, arith}
use Rattle.std.proofs.lemmas.Grind.{common_steps}
use Rattle.reader.specs.Reading.{ahead, moved}
use Rattle.reader.proofs.Steps.{moved_says}
use Rattle.reader.proofs.Reader.next.Goals as goal

pub returns-in-Ok-Some-clause-rest : goal.returns-in-Ok-Some-clause-rest
returns-in-Ok-Some-clause-rest c =
    let r = c.args.self.now in
    let after : record { frame = r.frame; place = c.in-Ok-Some.found.next; left = r.left - 1; fault = r.fault } ≡ moved r = grind (arith, common_steps) in
    ap ahead after ∙ moved_says r
