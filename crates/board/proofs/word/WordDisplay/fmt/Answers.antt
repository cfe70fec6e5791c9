use Rattle.std.proofs.Common.{◌+◌, true, ◌++◌, get_or, take, sym, refl}
use Rattle.std.proofs.Output.{has_written_of_eq, has_written_append, writes_in_calls_nil}
use Rattle.board.specs.Lines.{letter_text, word_text}
use Rattle.board.proofs.Showing.{word_none, word_more}
use Rattle.board.proofs.word.WordDisplay.fmt.Goals as goal

pub loop-b-init : goal.loop-b-init
loop-b-init g c plain = has_written_of_eq g.W.Write.write_str_gives _ _ _ _ (sym word_none) (record { wrote = writes_in_calls_nil g.W.Write.write_str_gives _; plain = plain })

pub loop-b-preserved : goal.loop-b-preserved
loop-b-preserved g c plain =
    let took = g.W.Write.write_str_gives in
    let bs = c.args.self.now.0.now in
    let i = c.loop-b.b-index in
    let x = c.loop-b.invariant plain in
    let y = c.in_ok-write.ensures.writes x.plain (refl {a = true}) in
    has_written_of_eq took c.args.f.now (word_text (take i bs) ++ letter_text (get_or bs i 0)) (word_text (take (i + 1) bs)) c.write.new.self (word_more bs i c.loop-b-test.true)
    (has_written_append took c.args.f.now (word_text (take i bs)) c.loop-b.f (letter_text (get_or bs i 0)) c.write.new.self x y)
