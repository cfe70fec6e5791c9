-- What holds of every frame, over what frames say.
use Rattle.std.specs.Prelude.{◌≡◌, ℕ, zero, suc, ◌+◌, ◌^◌, ◌<◌, ◌≤◌, false, List, [], ◌∷◌, ◌++◌, map, length, drop, Ok, slice_index, slice_index_or}
use Rattle.feed.specs.Bytes.{AreBytes}
use Rattle.feed.specs.Faults.{fault_at}
use Rattle.feed.specs.Layouts.{update, summary, unknown, Types, type_of, every_type, understood}
use Rattle.feed.specs.Frames.{Said, says, ends, breaks, saying, Part, told, frame_says}
use Rattle.feed.specs.Sending.{Sent, meant, encoded, size_of, AllFit, behind, framed, frame_of}

-- Reading a frame that was written gives exactly what was written, and then nothing.
abbrev pub ReadingReturnsWhatWasWritten : Type 0
ReadingReturnsWhatWasWritten = (ms : List Sent) → AllFit ms → length (frame_of ms) ≤ 1500 → frame_says every_type (frame_of ms) ≡ saying (map meant ms)

-- An update or summary of the published length, read and written again, has the same bytes.
abbrev pub WritingWhatWasReadGivesTheSameBytes : Type 0
WritingWhatWasReadGivesTheSameBytes = (m : List ℕ) (place : ℕ) (x : Sent) → AreBytes m → length m ≡ size_of x → slice_index m 0 ≡ length m → understood every_type m place ≡ Ok (meant x) → encoded x ≡ m

-- a message that begins with its own length, 2 at least
pub record OwnLength (m : List ℕ) : Type 0 where
  pub two : 2 ≤ length m
  pub own : slice_index_or m 0 0 ≡ length m

abbrev pub AllOwn : List (List ℕ) → Type 0
AllOwn [] = Unit {0}
AllOwn (m ∷ ms) = OwnLength m × AllOwn ms

-- messages at their places, the first at the given one and each where the one before it ends
abbrev pub placed : ℕ → List (List ℕ) → Said Part
placed place [] = ends
placed place (m ∷ ms) = says (record { place = place; bytes = m }) (placed (place + length m) ms)

-- Whatever types a reader knows, none of them or all, it finds every message at its place.
abbrev pub EveryReaderFindsEveryMessage : Type 0
EveryReaderFindsEveryMessage = (knows : Types) (five : List ℕ) (ms : List (List ℕ)) → length five ≡ 5 → AllOwn ms → 8 + length (behind ms) < 2 ^ 16 → frame_says knows (framed (length ms) five (behind ms)) ≡ told knows (placed 8 ms)

-- messages of types that a reader does not know
abbrev pub AllUnknown : Types → List (List ℕ) → Type 0
AllUnknown knows [] = Unit {0}
AllUnknown knows (m ∷ ms) = (knows (type_of m) ≡ false) × AllUnknown knows ms

-- A reader that knows none of a frame's types is given each message's bytes, steps over it by its length, and comes to the end without a fault.
abbrev pub UnknownTypesAreSteppedOver : Type 0
UnknownTypesAreSteppedOver = (knows : Types) (five : List ℕ) (ms : List (List ℕ)) → length five ≡ 5 → AllOwn ms → AllUnknown knows ms → 8 + length (behind ms) < 2 ^ 16 → frame_says knows (framed (length ms) five (behind ms)) ≡ saying (map unknown ms)

-- a message grown at its end: more bytes, and its length byte raised by their number
abbrev pub grown : List ℕ → List ℕ → List ℕ
grown m more = (slice_index m 0 + length more) ∷ (drop 1 m ++ more)

-- the same, with the fault at its end, if any, some bytes further on
abbrev pub moved_by : {A : Type 0} → ℕ → Said A → Said A
moved_by n (says a others) = says a (moved_by n others)
moved_by n ends = ends
moved_by n (breaks fault) = breaks (fault_at fault.reason (fault.place + n))

-- the same, if at least k things come before the fault
abbrev pub moved_after : {A : Type 0} → ℕ → ℕ → Said A → Said A
moved_after zero n said = moved_by n said
moved_after (suc k) n (says a others) = says a (moved_after k n others)
moved_after (suc k) n ends = ends
moved_after (suc k) n (breaks fault) = breaks fault

-- A known message grown at its end, in any frame, reads as before, and so do all messages of its frame; only a fault behind it lies further on, by the bytes that were added.
abbrev pub GrownAtItsEndReadsAsBefore : Type 0
GrownAtItsEndReadsAsBefore = (knows : Types) (count : ℕ) (five : List ℕ) (before : List (List ℕ)) (m more after : List ℕ) (x : Sent) → length five ≡ 5 → AllOwn before → OwnLength m → understood knows m 0 ≡ Ok (meant x) → 8 + length (behind before ++ (grown m more ++ after)) < 2 ^ 16 → frame_says knows (framed count five (behind before ++ (grown m more ++ after))) ≡ moved_after (suc (length before)) (length more) (frame_says knows (framed count five (behind before ++ (m ++ after))))

-- The published example messages, in one frame of unit 1: a time message and a symbol mapping, which we do not know, an update of 00mEVO at $102.50 and a summary.
abbrev pub example_time : List ℕ
example_time = 0x0a ∷ 0x20 ∷ 0x98 ∷ 0x85 ∷ 0x00 ∷ 0x00 ∷ 0x68 ∷ 0x11 ∷ 0x35 ∷ 0x60 ∷ []

abbrev pub example_mapping : List ℕ
example_mapping = 0x26 ∷ 0x2e ∷ 0x30 ∷ 0x30 ∷ 0x6d ∷ 0x45 ∷ 0x56 ∷ 0x4f ∷ 0x4d ∷ 0x53 ∷ 0x46 ∷ 0x54 ∷ 0x20 ∷ 0x20 ∷ 0x31 ∷ 0x39 ∷ 0x30 ∷ 0x39 ∷ 0x32 ∷ 0x30 ∷ 0x43 ∷ 0x30 ∷ 0x30 ∷ 0x31 ∷ 0x35 ∷ 0x30 ∷ 0x30 ∷ 0x30 ∷ 0x30 ∷ 0x4e ∷ 0x4d ∷ 0x53 ∷ 0x46 ∷ 0x54 ∷ 0x20 ∷ 0x20 ∷ 0x20 ∷ 0x20 ∷ []

abbrev pub example_update : List ℕ
example_update = 0x40 ∷ 0xd1 ∷ 0x18 ∷ 0xd2 ∷ 0x06 ∷ 0x00 ∷ 0x30 ∷ 0x30 ∷ 0x6d ∷ 0x45 ∷ 0x56 ∷ 0x4f ∷ 0x20 ∷ 0x20 ∷ 0x56 ∷ 0xe8 ∷ 0xa3 ∷ 0x0f ∷ 0x00 ∷ 0x00 ∷ 0x00 ∷ 0x00 ∷ 0x00 ∷ 0x64 ∷ 0x00 ∷ 0x00 ∷ 0x00 ∷ 0xc8 ∷ 0x00 ∷ 0x00 ∷ 0x00 ∷ 0xe8 ∷ 0xa3 ∷ 0x0f ∷ 0x00 ∷ 0x00 ∷ 0x00 ∷ 0x00 ∷ 0x00 ∷ 0xe8 ∷ 0xa3 ∷ 0x0f ∷ 0x00 ∷ 0x00 ∷ 0x00 ∷ 0x00 ∷ 0x00 ∷ 0x4f ∷ 0x50 ∷ 0x69 ∷ 0x0f ∷ 0x00 ∷ 0x00 ∷ 0x00 ∷ 0x00 ∷ 0x00 ∷ 0x70 ∷ 0xb7 ∷ 0x0f ∷ 0x00 ∷ 0x00 ∷ 0x00 ∷ 0x00 ∷ 0x00 ∷ []

abbrev pub example_summary : List ℕ
example_summary = 0x1b ∷ 0x96 ∷ 0x18 ∷ 0xd2 ∷ 0x06 ∷ 0x00 ∷ 0x30 ∷ 0x30 ∷ 0x6d ∷ 0x45 ∷ 0x56 ∷ 0x4f ∷ 0x20 ∷ 0x20 ∷ 0x4f ∷ 0xe8 ∷ 0xa3 ∷ 0x0f ∷ 0x00 ∷ 0x00 ∷ 0x00 ∷ 0x00 ∷ 0x00 ∷ 0x4b ∷ 0x00 ∷ 0x00 ∷ 0x00 ∷ []

abbrev pub example_symbol : List ℕ
example_symbol = 0x30 ∷ 0x30 ∷ 0x6d ∷ 0x45 ∷ 0x56 ∷ 0x4f ∷ 0x20 ∷ 0x20 ∷ []

abbrev pub PublishedExamplesRead : Type 0
PublishedExamplesRead =
    frame_says every_type (framed 4 (1 ∷ 0 ∷ 0 ∷ 0 ∷ 0 ∷ []) (behind (example_time ∷ example_mapping ∷ example_update ∷ example_summary ∷ [])))
    ≡ saying (
    unknown example_time ∷
    unknown example_mapping ∷
    update (record { offset = 447000; symbol = example_symbol; auction = 0x56; reference = 1025000; buy = 100; sell = 200; indicative = 1025000; auction_only = 1025000; condition = 0x4f; bid = 1010000; offer = 1030000 }) ∷
    summary (record { offset = 447000; symbol = example_symbol; auction = 0x4f; price = 1025000; contracts = 75 }) ∷
    []
    )
