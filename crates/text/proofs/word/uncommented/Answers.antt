use Rattle.text.specs.Word.{is_byte}
use Rattle.text.proofs.Wording.{at_some, all_before, front_is}
use Rattle.text.proofs.word.uncommented.Goals as goal

pub returns-in-Some : goal.returns-in-Some
returns-in-Some c = front_is (is_byte 35) c.args.line.now c.in-Some.comment (at_some (is_byte 35) c.args.line.now c.in-Some.comment c.in-Some.ensures).0

pub returns-in-None : goal.returns-in-None
returns-in-None c = all_before (is_byte 35) c.args.line.now c.in-None.ensures
