use Rattle.std.proofs.Common.{◌≡◌, arith, ap, ◌∙◌, sym}
use Rattle.std.proofs.lemmas.Grind.{common_steps}
use Rattle.feed.specs.Layouts.{every_type}
use Rattle.feed.specs.Frames.{first, message_at}
use Rattle.reader.specs.Reading.{answered_found}
use Rattle.reader.proofs.Steps.{some, first_more, unfaulted}
use Rattle.reader.proofs.Reader.found.Goals as goal

pub returns-then-self-gt0-clause-answer : goal.returns-then-self-gt0-clause-answer
returns-then-self-gt0-clause-answer c =
    let r = c.args.self.now in
    let is : answered_found c.map.result ≡ some (message_at every_type r.frame.now r.place) = grind (arith, common_steps) in
    is ∙ sym (first_more every_type r.left r.place r.frame.now c.if-self-gt0.true) ∙ sym (ap first (unfaulted r c.in_default.is))
