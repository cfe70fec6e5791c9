use Rattle.std.proofs.Common.{◌<◌, length, sym, refl, arith, rules, tests}
use Rattle.std.proofs.lemmas.Bool.{eqb-false}
use Rattle.text.specs.Number.{whole_of}
use Rattle.text.proofs.Folding.{folded}
use Rattle.text.proofs.number.whole.Goals as goal

pub returns-then-is_empty : goal.returns-then-is_empty
unfolding whole_of
returns-then-is_empty c = search rules

pub returns : goal.returns
returns c =
    let h = c.try_fold.ensures.ran in
    let some : 0 < length c.args.word.now = omega (arith, eqb-false (length c.args.word.now) 0 (sym c.if-is_empty.ensures)) in
    folded c.args.word.now c.try_fold.result _ (λ p x q k. search (rules, tests)) h.0 h.1 c.iter.result h.4.0 c.try_fold.new.self _ _ _ (λ x k. (search (rules, tests), search (rules, tests))) some c.iter.ensures.rest refl h.4.1 h.4.2 h.5 h.6
