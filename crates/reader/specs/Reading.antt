-- A reader: what it has yet to say, and how a call moves it.
use Rattle.std.specs.Prelude.{ℕ, ◌+◌, ◌-◌, List, [], ◌∷◌, Some, None, Ok, Err, Option, Result, slice_index}
use Rattle.std.specs.Borrow.{Bor}
use Rattle.feed.specs.Layouts.{Notice, every_type}
use Rattle.feed.specs.Frames.{Said, says, ends, breaks, cut_from, count_of, told, first}
use Rattle.feed.specs.Shown.{notice_of}
use Rattle.feed.specs.declared.decode.Found.{Found}
use Rattle.feed.specs.declared.fault.Fault.{Fault}
use Rattle.feed.specs.declared.message.Message.{Message}
use Rattle.reader.specs.declared.Messages.{Messages}
use Rattle.reader.specs.declared.Reader.{Reader}

-- what a reader has yet to say
abbrev pub ahead : Reader → Said Notice
ahead r = elim r.fault [ None ↦ told every_type (cut_from r.left r.place r.frame.now) | Some fault ↦ breaks fault ]

-- a reader at the start of a frame
abbrev pub opened : Bor (List ℕ) → Reader
opened f = elim (count_of f.now) [ Ok n ↦ record { frame = f; place = 8; left = n; fault = None } | Err fault ↦ record { frame = f; place = 8; left = 0; fault = Some fault } ]

-- a reader that goes on at a place of a frame, where n messages are still counted
abbrev pub resumed : Bor (List ℕ) → ℕ → ℕ → Reader
resumed f place n = record { frame = f; place = place; left = n; fault = None }

-- a reader behind its next message
abbrev pub onward : Reader → Reader
onward r = record { frame = r.frame; place = r.place + slice_index r.frame.now r.place; left = r.left - 1; fault = None }

-- a reader after an answer: a message moves it, a fault stays, and the end is the end
abbrev pub after : Reader → Result (Option Notice) Fault → Reader
after r (Ok (Some told)) = onward r
after r (Ok None) = r
after r (Err fault) = record { frame = r.frame; place = r.place; left = r.left; fault = Some fault }

-- a reader after its next call
abbrev pub moved : Reader → Reader
moved r = after r (first (ahead r))

-- what a call returned
abbrev pub answered : Result (Option Message) Fault → Result (Option Notice) Fault
answered (Ok None) = Ok None
answered (Ok (Some message)) = Ok (Some (notice_of message))
answered (Err fault) = Err fault

abbrev pub answered_found : Result (Option Found) Fault → Result (Option Notice) Fault
answered_found (Ok None) = Ok None
answered_found (Ok (Some found)) = Ok (Some (notice_of found.message))
answered_found (Err fault) = Err fault

-- the messages that are said, and then the fault, if there is one
abbrev pub items : Said Notice → List (Result Notice Fault)
items (says told others) = Ok told ∷ items others
items ends = []
items (breaks fault) = Err fault ∷ []

-- what an iterator has yet to give
abbrev pub items_left : Messages → List (Result Notice Fault)
items_left m = elim m.reader [ None ↦ [] | Some r ↦ items (ahead r) ]
