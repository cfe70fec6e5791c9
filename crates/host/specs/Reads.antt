-- What a C program is told of one message of a frame: a kind, and eighteen numbers.
use Rattle.std.specs.Prelude.{◌≡◌, ℕ, ◌+◌, cond, List, [], ◌∷◌, ◌++◌, length, drop, Some, None, Ok, Err, Option, Result, ◌==◌, nat_le, slice_index}
use Rattle.std.specs.Borrow.{Bor}
use Rattle.feed.specs.Faults.{number_of, layer_of}
use Rattle.feed.specs.Frames.{Said, first, later}
use Rattle.feed.specs.Layouts.{Notice, update, summary, unknown}
use Rattle.feed.specs.declared.fault.Fault.{Fault}
use Rattle.feed.specs.declared.fault.Layer.{Layer}
use Rattle.feed.specs.declared.fault.Layer.TheVariants.{Frame, Message, Field}
use Rattle.feed.specs.declared.message.Summary.{Summary}
use Rattle.feed.specs.declared.message.Update.{Update}
use Rattle.reader.specs.Reading.{ahead, opened, resumed, moved}
use Rattle.reader.specs.declared.Reader.{Reader}
use Rattle.host.specs.declared.reads.Kind.{Kind}
use Rattle.host.specs.declared.reads.Kind.TheVariants as kind
use Rattle.host.specs.declared.reads.Told.{Told}
use Rattle.host.specs.declared.reads.Stand.{Stand}

-- the reader that a call goes on with: place 0 starts the frame
abbrev pub reader_for : Bor (List ℕ) → ℕ → ℕ → Reader
reader_for f place left = cond (place == 0) (opened f) (resumed f place left)

-- how a reader's next message stands in its frame: what to pass next, where it begins, and its length
abbrev pub stand_of : List ℕ → Reader → Stand
stand_of f r = record { next = (moved r).place; left = (moved r).left; place = r.place; length = slice_index f r.place }

-- the number of a kind
abbrev pub kind_number : Kind → ℕ
kind_number kind.End = 0
kind_number kind.Update = 1
kind_number kind.Summary = 2
kind_number kind.Unknown = 3
kind_number kind.Fault = 4
kind_number kind.TooFew = 5

-- the number of a layer
abbrev pub layer_number : Layer → ℕ
layer_number Frame = 1
layer_number Message = 2
layer_number Field = 3

-- an update's numbers: next, left, place, length, symbol, offset, auction, price, contracts, buy, sell, indicative, auction-only, condition, bid, offer, fault, layer
abbrev pub update_numbers : Stand → Update → List ℕ
update_numbers at u =
    at.next ∷ at.left ∷ at.place ∷ at.length ∷ (at.place + 6) ∷ u.offset ∷ u.auction ∷ u.reference ∷ 0
    ∷ u.buy ∷ u.sell ∷ u.indicative ∷ u.auction_only ∷ u.condition ∷ u.bid ∷ u.offer ∷ 0 ∷ 0 ∷ []

abbrev pub summary_numbers : Stand → Summary → List ℕ
summary_numbers at s =
    at.next ∷ at.left ∷ at.place ∷ at.length ∷ (at.place + 6) ∷ s.offset ∷ s.auction ∷ s.price ∷ s.contracts
    ∷ 0 ∷ 0 ∷ 0 ∷ 0 ∷ 0 ∷ 0 ∷ 0 ∷ 0 ∷ 0 ∷ []

-- the numbers of an unknown message, the end or a fault: no fields
abbrev pub bare_numbers : Stand → ℕ → ℕ → List ℕ
bare_numbers at fault layer =
    at.next ∷ at.left ∷ at.place ∷ at.length ∷ 0 ∷ 0 ∷ 0 ∷ 0 ∷ 0 ∷ 0 ∷ 0 ∷ 0 ∷ 0 ∷ 0 ∷ 0 ∷ 0 ∷ fault ∷ layer ∷ []

-- where there is no message, what to pass next is what was passed
abbrev pub staying : ℕ → ℕ → ℕ → Stand
staying place left at = record { next = place; left = left; place = at; length = 0 }

-- a message is kind 1, 2 or 3
abbrev pub notice_told : Stand → Notice → Told
notice_told at (update u) = record { kind = kind.Update; numbers = update_numbers at u }
notice_told at (summary s) = record { kind = kind.Summary; numbers = summary_numbers at s }
notice_told at (unknown m) = record { kind = kind.Unknown; numbers = bare_numbers at 0 0 }

-- an answer of a reader, told to a call with this place and this count; the end is kind 0, a fault kind 4
abbrev pub answer_told : ℕ → ℕ → Stand → Result (Option Notice) Fault → Told
answer_told place left at (Ok (Some notice)) = notice_told at notice
answer_told place left at (Ok None) = record { kind = kind.End; numbers = bare_numbers (staying place left 0) 0 0 }
answer_told place left at (Err fault) = record { kind = kind.Fault; numbers = bare_numbers (staying place left fault.place) (number_of fault.reason) (layer_number (layer_of fault.reason)) }

-- what a frame has yet to say to a call with this place and this count
abbrev pub ahead_for : Bor (List ℕ) → ℕ → ℕ → Said Notice
ahead_for f place left = ahead (reader_for f place left)

-- what a call is told
abbrev pub told : Bor (List ℕ) → ℕ → ℕ → Told
told f place left = answer_told place left (stand_of f.now (reader_for f place left)) (first (ahead_for f place left))

-- the numbers to pass next
abbrev pub next_of : Told → ℕ
next_of t = slice_index t.numbers 0

abbrev pub left_of : Told → ℕ
left_of t = slice_index t.numbers 1

-- a call that passes them is told the rest of the frame
abbrev pub GoesOn : Bor (List ℕ) → ℕ → ℕ → Type 0
GoesOn f place left = ahead_for f (next_of (told f place left)) (left_of (told f place left)) ≡ later (ahead_for f place left)

-- with too few places for the numbers the kind is 5
abbrev pub kind_for : Told → List ℕ → ℕ
kind_for t places = kind_number (cond (nat_le 18 (length places)) t.kind kind.TooFew)

-- the places afterwards: the first eighteen hold the numbers; with fewer, nothing is written
abbrev pub places_after : Told → List ℕ → List ℕ
places_after t places = cond (nat_le 18 (length places)) (t.numbers ++ drop 18 places) places
