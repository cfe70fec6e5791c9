-- What a frame says: a list of messages, ended by nothing or by one fault.
use Rattle.std.specs.Prelude.{ℕ, zero, suc, ◌+◌, cond, ◌&&◌, List, [], ◌∷◌, length, take, drop, Some, None, Ok, Err, Option, Result, ◌==◌, nat_le, nat_lt, slice_index}
use Rattle.feed.specs.Bytes.{cells, le}
use Rattle.feed.specs.Faults.{fault_at}
use Rattle.feed.specs.Layouts.{Notice, Types, understood}
use Rattle.feed.specs.declared.fault.Fault.{Fault}
use Rattle.feed.specs.declared.fault.Reason.TheVariants.{Header, Length, Leftover}

-- things one after another, ended by nothing or by one fault
pub data Said (A : Type 0) : Type 0 where
  says : A → Said A → Said A
  ends : Said A
  breaks : Fault → Said A

-- all of a list, and then nothing
abbrev pub saying : {A : Type 0} → List A → Said A
saying [] = ends
saying (a ∷ others) = says a (saying others)

-- one thing and then the others, unless it is a fault
abbrev pub followed : {A : Type 0} → Result A Fault → Said A → Said A
followed (Ok a) others = says a others
followed (Err fault) others = breaks fault

-- one message of a frame: where it begins, and its bytes
pub record Part : Type 0 where
  pub place : ℕ
  pub bytes : List ℕ

-- the message at a place by its own length, its first byte: 2 at least, and within the frame; a length byte that is absent reads as 0
abbrev pub part_at : List ℕ → ℕ → Result Part Fault
part_at f place =
    cond (nat_le 2 (slice_index f place) && nat_le (place + slice_index f place) (length f)) (Ok (record { place = place; bytes = take (slice_index f place) (drop place f) }))
    (Err (fault_at Length place))

-- n messages from a place on, each where the one before it ends, and nothing behind them
abbrev pub cut_from : ℕ → ℕ → List ℕ → Said Part
cut_from zero place f = cond (nat_lt place (length f)) (breaks (fault_at Leftover place)) ends
cut_from (suc n) place f = followed (part_at f place) (cut_from n (place + slice_index f place) f)

-- the header's count of messages: a header has 8 bytes, and begins with the frame's length
abbrev pub count_of : List ℕ → Result ℕ Fault
count_of f = cond (nat_le 8 (length f) && le (cells 2 0 f) == length f) (Ok (slice_index f 2)) (Err (fault_at Header 0))

-- a frame cut into its messages; no type matters for that
abbrev pub cut : List ℕ → Said Part
cut f = elim (count_of f) [ Ok n ↦ cut_from n 8 f | Err fault ↦ breaks fault ]

-- the messages as a reader understands them that knows some of the types, up to the first fault
abbrev pub told : Types → Said Part → Said Notice
told knows (says part others) = followed (understood knows part.bytes part.place) (told knows others)
told knows ends = ends
told knows (breaks fault) = breaks fault

-- what a frame says to a reader that knows some of the types
abbrev pub frame_says : Types → List ℕ → Said Notice
frame_says knows f = told knows (cut f)

-- what the first call of a reader answers, and what is said to the calls after it: a fault stays
abbrev pub first : {A : Type 0} → Said A → Result (Option A) Fault
first (says a others) = Ok (Some a)
first ends = Ok None
first (breaks fault) = Err fault

abbrev pub later : {A : Type 0} → Said A → Said A
later (says a others) = others
later ends = ends
later (breaks fault) = breaks fault

-- the one message at a place
abbrev pub message_at : Types → List ℕ → ℕ → Result Notice Fault
message_at knows f place = elim (part_at f place) [ Ok part ↦ understood knows part.bytes part.place | Err fault ↦ Err fault ]
