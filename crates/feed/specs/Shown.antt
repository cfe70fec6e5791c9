-- What the reading functions return, as a notice.
use Rattle.std.specs.Prelude.{◌≡◌, ℕ, Ok, Err, Result}
use Rattle.feed.specs.Layouts.{Notice, update, summary, unknown}
use Rattle.feed.specs.declared.fault.Fault.{Fault}
use Rattle.feed.specs.declared.decode.Found.{Found}
use Rattle.feed.specs.declared.message.Message.{Message}
use Rattle.feed.specs.declared.message.Message.TheVariants.{Update, Summary, Unknown}

-- what a message tells; an unknown one by its bytes
abbrev pub notice_of : Message → Notice
notice_of (Update u) = update u
notice_of (Summary s) = summary s
notice_of (Unknown m) = unknown m.now

-- a message that was read, or its fault
abbrev pub heard : Result Message Fault → Result Notice Fault
heard (Ok message) = Ok (notice_of message)
heard (Err fault) = Err fault

-- the same, of a message that was found in its frame
abbrev pub found : Result Found Fault → Result Notice Fault
found (Ok x) = Ok (notice_of x.message)
found (Err fault) = Err fault

-- an unknown message is no copy: its bytes lie at this address, a block of memory and a byte in it
abbrev pub LentAt : ℕ → ℕ → Message → Type 0
LentAt block byte (Update u) = Unit {0}
LentAt block byte (Summary s) = Unit {0}
LentAt block byte (Unknown m) = (m.ref_ptr.0 ≡ block) × (m.ref_ptr.1 ≡ byte)
