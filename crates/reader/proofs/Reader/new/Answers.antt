use Rattle.std.proofs.Common.{◌≡◌, ap, ◌∙◌, arith}
use Rattle.std.proofs.lemmas.Grind.{common_steps}
use Rattle.feed.specs.Layouts.{every_type}
use Rattle.feed.specs.Frames.{frame_says}
use Rattle.feed_laws.proofs.Walks.{written_trip}
use Rattle.reader.specs.Reading.{ahead}
use Rattle.reader.proofs.Reader.new.Goals as goal

pub returns-clause-returns_what_was_written : goal.returns-clause-returns_what_was_written
returns-clause-returns_what_was_written c =
    let says : ahead (record { frame = c.args.frame; place = 8; left = c.unwrap_or.result; fault = c.err.result }) ≡ frame_says every_type c.args.frame.now = grind (arith, common_steps) in
    λ ms fit short is. says ∙ ap (frame_says every_type) is ∙ written_trip ms fit short
