use Rattle.std.proofs.Common.{◌≡◌, ℕ, Ok, Some, Option, sym, ap, ◌∙◌, arith}
use Rattle.feed.specs.Frames.{first}
use Rattle.feed.specs.Shown.{notice_of}
use Rattle.feed.specs.declared.message.Message.{Message}
use Rattle.reader.specs.Reading.{ahead, answered}
use Rattle.reader.specs.declared.Reader.{Reader}
use Rattle.host.specs.Reads.{reader_for}
use Rattle.host.proofs.Onward.{said_lies}
use Rattle.host.proofs.reads.Call.told.Goals as goal

pub message_told-requires : goal.message_told-requires
message_told-requires c =
    let call = c.args.self.now in
    let for = c.reader-reader.ensures in
    let some : c.in-Ok-Some.field-0 ≡ Some c.in-Ok-Some.message = rw c.in-Ok-Some.is at c.in-Ok-Some.field-0-is in
    let said = sym (ap (λ (o : Option Message). answered (Ok o)) some) ∙ c.in-Ok-Some.ensures.answer ∙ ap (λ (r : Reader). first (ahead r)) for in
    let lies = said_lies call.frame call.place call.left (notice_of c.in-Ok-Some.message) said in
    let begin : c.position-begin.result.0 ≡ (reader_for call.frame call.place call.left).place = ap (λ (p : ℕ × ℕ). p.0) c.position-begin.ensures ∙ ap (λ (r : Reader). r.place) for in
    omega (arith, lies.within)
