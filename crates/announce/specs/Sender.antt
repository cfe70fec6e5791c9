-- A message that is to be sent.
use Rattle.std.specs.Prelude.{ℕ, ◌⊎◌, List, [], Some, None, Ok, Err, Option, Result}
use Rattle.feed.specs.Sending.{Sent}
use Rattle.writer.specs.Writing.{Holds, sent_after}
use Rattle.announce.specs.declared.LineError.{LineError}
use Rattle.announce.specs.declared.LineError.TheVariants.{Unread, Refused, Failed}
use Rattle.writer.specs.declared.refusal.Refusal.{Refusal}

-- the buffer's frame is, with the message if it was not refused, the frame that was in the making or the next one
abbrev pub InThisOrNext : Option Refusal → List Sent → Sent → List ℕ → Type 0
InThisOrNext why ms m b = Holds (sent_after why ms m) b ⊎ Holds (sent_after why [] m) b

-- what comes of a message that is put into the frame: it is sent, or refused, or the program cannot go on
abbrev pub Put : Result (Unit {0}) LineError → List Sent → Sent → List ℕ → Type 0
Put (Ok _) ms m b = InThisOrNext None ms m b
Put (Err (Refused why)) ms m b = InThisOrNext (Some why) ms m b
Put (Err (Failed _)) ms m b = Unit {0}
Put (Err (Unread _)) ms m b = ⊥
