-- A frame at the start of a buffer, and how it grows.
use Rattle.std.specs.Prelude.{◌≡◌, ℕ, ◌+◌, ◌≤◌, Bool, cond, ◌&&◌, List, [], ◌∷◌, ◌++◌, length, take, Some, None, Option, nat_le, nat_lt, slice_index}
use Rattle.feed.specs.Bytes.{cells, le, bytes}
use Rattle.feed.specs.Sending.{Sent, encoded, size_of, fit, AllFit, frame_of, laid}
use Rattle.writer.specs.declared.refusal.Refusal.{Refusal}
use Rattle.writer.specs.declared.refusal.Refusal.TheVariants.{NoRoom, Unfit}

-- the length and the count that the header at the start of a buffer says
abbrev pub length_in : List ℕ → ℕ
length_in b = le (cells 2 0 b)

abbrev pub count_in : List ℕ → ℕ
count_in b = slice_index b 2

-- the frame at the start of a buffer
abbrev pub frame_in : List ℕ → List ℕ
frame_in b = take (length_in b) b

-- whether n bytes more go behind a buffer's frame: it has a header, and they end within 1,500 bytes and within the buffer
abbrev pub has_room : List ℕ → ℕ → Bool
has_room b n = nat_le 8 (length_in b) && (nat_lt (count_in b) 255 && (nat_le (length_in b + n) 1500 && nat_le (length_in b + n) (length b)))

-- why a message is not written, if so; want of room comes first
abbrev pub refusal : List ℕ → Sent → Option Refusal
refusal b m = cond (has_room b (size_of m)) (cond (fit m) None (Some Unfit)) (Some NoRoom)

-- a buffer with a message's bytes behind its frame, and the header made to count them
unfoldable pub extended : List ℕ → List ℕ → List ℕ
extended b m = laid (laid b (length_in b) m) 0 (bytes 2 (length_in b + length m) ++ ((count_in b + 1) ∷ []))

-- a buffer after a message was written; a refusal changes nothing
abbrev pub written : List ℕ → Sent → List ℕ
written b m = elim (refusal b m) [ None ↦ extended b (encoded m) | Some why ↦ b ]

-- a buffer after messages were written one after another
abbrev pub written_all : List ℕ → List Sent → List ℕ
written_all b [] = b
written_all b (m ∷ ms) = written_all (written b m) ms

-- why a frame cannot be begun in a buffer, if so
abbrev pub start_refusal : List ℕ → Option Refusal
start_refusal b = cond (nat_le 8 (length b)) None (Some NoRoom)

-- a frame without a message
abbrev pub empty_frame : List ℕ
empty_frame = 8 ∷ 0 ∷ 0 ∷ 0 ∷ 0 ∷ 0 ∷ 0 ∷ 0 ∷ []

-- a buffer in which a frame without a message was begun; one under 8 bytes is left as it is
abbrev pub begun : List ℕ → List ℕ
begun b = cond (nat_le 8 (length b)) (laid b 0 empty_frame) b

-- a buffer's frame is that of these messages, which are fit
pub record Holds (ms : List Sent) (b : List ℕ) : Type 0 where
  pub frame : frame_in b ≡ frame_of ms
  pub fits : AllFit ms
  pub short : length (frame_of ms) ≤ 1500

-- the messages in a buffer's frame after one more was written or refused
abbrev pub sent_after : Option Refusal → List Sent → Sent → List Sent
sent_after None ms m = ms ++ m ∷ []
sent_after (Some why) ms m = ms
