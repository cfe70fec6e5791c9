use Rattle.std.proofs.Common.{◌≡◌, None, length, take, drop, sym, ap, ◌∙◌, rules, tests}
use Rattle.std.specs.List.{position}
use Rattle.std.specs.Option.{unwrap_or}
use Rattle.std.proofs.lemmas.Iterator.{YieldsList-from_slice}
use Rattle.std.proofs.lemmas.Iterator.Search.{position_from_yields_List}
use Rattle.std.proofs.lemmas.List.{take_rest}
use Rattle.text.specs.Word.{is_blank, is_ink}
use Rattle.text.proofs.Wording.{Cut, no_word, cut}
use Rattle.text.proofs.word.first_word.Goals as goal

pub returns-in_err-start-clause-none : goal.returns-in_err-start-clause-none
returns-in_err-start-clause-none c =
    let found : c.position.result ≡ position is_ink c.args.line.now = position_from_yields_List is_ink _ _ c.position.result c.position.ensures.ran (YieldsList-from_slice _ c.iter.ensures.rest) (λ x b q k. search (rules, tests)) in
    let none : None ≡ position is_ink c.args.line.now = sym c.in_err-start.was ∙ found in
    rw c.from_residual.ensures (no_word c.args.line.now none)

pub returns : goal.returns
returns c =
    let line = c.args.line.now in
    let start = c.in_ok-start.start in
    let found : c.position.result ≡ position is_ink line = position_from_yields_List is_ink _ _ c.position.result c.position.ensures.ran (YieldsList-from_slice _ c.iter.ensures.rest) (λ x b q k. search (rules, tests)) in
    let blank : c.position-end.result ≡ position is_blank (drop start line) = position_from_yields_List is_blank _ _ c.position-end.result c.position-end.ensures.ran (YieldsList-from_slice _ (c.iter-2.ensures.rest ∙ take_rest line start)) (λ x b q k. search (rules, tests)) in
    let end = c.unwrap_or.ensures ∙ (λ i. unwrap_or (blank i) (length (take_rest line start i))) in
    let parts : Cut line c.split_at.result.0.now c.split_at.result.1.now = cut line _ _ start c.unwrap_or.result (sym c.in_ok-start.was ∙ found) end (c.split_at.ensures.front ∙ ap (take c.unwrap_or.result) (take_rest line start)) (c.split_at.ensures.back ∙ ap (drop c.unwrap_or.result) (take_rest line start)) in
    record { none = tt; word = parts.word; rest = parts.rest; words = parts.words }
