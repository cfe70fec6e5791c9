-- What a C program is answered where it writes a frame.
use Rattle.std.specs.Prelude.{◌≡◌, ℕ, cond, List, [], ◌∷◌, map, length, Some, None, Option, ◌==◌}
use Rattle.feed.specs.Frames.{saying, frame_says}
use Rattle.feed.specs.Layouts.{every_type}
use Rattle.feed.specs.Sending.{Sent, meant}
use Rattle.writer.specs.Refusals.{number_of}
use Rattle.writer.specs.Writing.{frame_in, refusal, written, Holds, sent_after}
use Rattle.writer.specs.declared.refusal.Refusal.{Refusal}

-- 0, or the refusal's number
abbrev pub answer_of : Option Refusal → ℕ
answer_of None = 0
answer_of (Some why) = number_of why

-- a symbol that is not eight bytes is taken as eight zero bytes, which no symbol has
abbrev pub symbol_of : List ℕ → List ℕ
symbol_of s = cond (length s == 8) s (0 ∷ 0 ∷ 0 ∷ 0 ∷ 0 ∷ 0 ∷ 0 ∷ 0 ∷ [])

-- a message is added to a buffer: the answer, every byte afterwards, and if the buffer's frame was that of some messages, what it holds and reads as then
pub record Added (before : List ℕ) (message : Sent) (answer : ℕ) (after : List ℕ) : Type 0 where
  pub refused : answer ≡ answer_of (refusal before message)
  pub bytes : after ≡ written before message
  pub holds : (ms : List Sent) → Holds ms before → Holds (sent_after (refusal before message) ms message) after
  pub reads : (ms : List Sent) → Holds ms before → frame_says every_type (frame_in after) ≡ saying (map meant (sent_after (refusal before message) ms message))
