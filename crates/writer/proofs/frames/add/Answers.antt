use Rattle.std.proofs.Common.{◌≡◌, true, List, [], ◌∷◌, ◌++◌, None, sym, ◌∙◌}
use Rattle.std.proofs.lemmas.Bool.{false≢true}
use Rattle.feed.specs.Sending.{Sent, fit}
use Rattle.feed.proofs.Lays.{encoded_size}
use Rattle.writer.specs.Writing.{Holds}
use Rattle.writer.proofs.Extends.{room_for, taken, fits_within, extends}
use Rattle.writer.proofs.Holding.{held, reads}
use Rattle.writer.proofs.frames.add.Goals as goal

-- the message fits the buffer, so that this is no way out
pub returns-in_err-write_at : goal.returns-in_err-write_at
returns-in_err-write_at g c =
    let b = c.args.buffer.now in
    let m = g.M.Encode.sent c.args.message.now in
    let roomy = room_for b c.size-size.result m c.size-size.ensures c.if-not-has_room.ensures in
    let fits = fits_within b m c.length_in-length.result c.length_in-length.ensures roomy in
    absurd (false≢true (c.in_err-write_at.ensures.answer ∙ fits))

pub returns : goal.returns
returns g c =
    let b = c.args.buffer.now in
    let new = c.write_header.new.buffer in
    let m = g.M.Encode.sent c.args.message.now in
    let size = c.size-size.ensures in
    let roomy = room_for b c.size-size.result m size c.if-not-has_room.ensures in
    let fits : fit m ≡ true = sym c.if-not-is_fit.ensures in
    let answer = taken b m roomy fits in
    let after = extends b c.write_at.new.buffer new m c.size-size.result c.length_in-length.result c.byte_at-count.result (size ∙ sym (encoded_size m)) c.length_in-length.ensures c.byte_at-count.ensures roomy fits c.in_ok-write_at.ensures.after c.write_header.ensures in
    let holds : (ms : List Sent) → Holds ms b → Holds (ms ++ m ∷ []) new = λ ms h. held ms m b new None answer after (λ _. c.write_at.ensures.widths) h in
    record { answer = answer; after = after; holds = holds; reads = λ ms h. reads (ms ++ m ∷ []) new (holds ms h) }
