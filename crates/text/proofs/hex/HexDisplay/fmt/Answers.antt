use Rattle.std.proofs.Common.{true, ◌-◌, ◌∷◌, ◌++◌, length, get_or, take, drop, refl, ◌∙◌}
use Rattle.std.proofs.Output.{has_written_of_eq, writes_in_calls_nil}
use Rattle.std.proofs.lemmas.Grind.{put_four}
use Rattle.text.specs.Hex.{hex_pair, blank_pairs}
use Rattle.text.proofs.Showing.{none_shown, all_shown, more_shown}
use Rattle.text.proofs.hex.HexDisplay.fmt.Goals as goal

pub returns-in_default-clause-writes : goal.returns-in_default-clause-writes
returns-in_default-clause-writes g c plain ok =
    has_written_of_eq g.W.Write.write_str_gives _ _ _ _ (none_shown c.args.self.now.0.now c.in_default.len_below) (record { wrote = writes_in_calls_nil g.W.Write.write_str_gives _; plain = plain })

pub loop-b-preserved : goal.loop-b-preserved
loop-b-preserved g c plain =
    let bs = c.args.self.now.0.now in
    let others = take (length bs - 1) (drop 1 bs) in
    let first = hex_pair (get_or bs 0 0) in
    let w = c.loop-b.invariant plain in
    let x = c.in_ok-write_str-3.ensures.writes w.plain (refl {a = true}) in
    let y = c.in_ok-write_str-4.ensures.writes x.plain (refl {a = true}) in
    let z = c.in_ok-write_str-5.ensures.writes y.plain (refl {a = true}) in
    put_four g.W.Write.write_str_gives _ _ _ _ _ _ _ _ _ _ w x y z
    ((λ i. (first ++ blank_pairs (take c.loop-b.b-index others)) ++ (32 ∷ (c.digit_text-in-loop-b.ensures i ++ c.digit_text-in-loop-b-2.ensures i))) ∙ more_shown first others c.loop-b.b-index c.loop-b-test.true)

pub returns-clause-writes : goal.returns-clause-writes
returns-clause-writes g c plain ok =
    has_written_of_eq g.W.Write.write_str_gives _ _ _ _ (all_shown c.args.self.now.0.now c.loop-b.b-index c.in-len1-up.len_at_least c.loop-b-test.false) (c.loop-b.invariant plain)
