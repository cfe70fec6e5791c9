use Rattle.std.proofs.Common.{ℕ, ◌+◌, ◌^◌, ◌<◌, ap, ◌∙◌, subst}
use Rattle.std.specs.Option.{SomeIff}
use Rattle.text.specs.Number.{whole_of}
use Rattle.text.specs.Price.{decimals_of}
use Rattle.text.specs.Word.{is_byte}
use Rattle.text.proofs.Pricing.{dollars_no_whole, dollars_large, dollars_only, dollars_no_decimals, dollars_full}
use Rattle.text.proofs.Pointing.{front_is, back_is, point_below}
use Rattle.text.proofs.Wording.{at_none, all_before}
use Rattle.text.proofs.price.dollars.Goals as goal

pub returns-in_err-whole-in-None : goal.returns-in_err-whole-in-None
returns-in_err-whole-in-None c =
    c.from_residual.ensures ∙ dollars_no_whole c.args.word.now (c.in_err-whole-in-None.ensures ∙ ap whole_of (all_before (is_byte 46) c.args.word.now c.in-None.ensures))

pub returns-in_ok-whole-in-None : goal.returns-in_ok-whole-in-None
returns-in_ok-whole-in-None c =
    dollars_only c.args.word.now c.in_ok-whole-in-None.field-0 c.checked_mul.result
    (c.in_ok-whole-in-None.ensures ∙ ap whole_of (all_before (is_byte 46) c.args.word.now c.in-None.ensures))
    (at_none (is_byte 46) c.args.word.now c.in-None.ensures) c.checked_mul.ensures

pub returns-in_err-whole-in-Some : goal.returns-in_err-whole-in-Some
returns-in_err-whole-in-Some c =
    c.from_residual-in_err-whole-in-Some.ensures ∙ dollars_no_whole c.args.word.now (c.in_err-whole-in-Some.ensures ∙ ap whole_of (front_is c.args.word.now c.in-Some.point c.in-Some.ensures))

pub returns-in_err-checked_mul-in-Some : goal.returns-in_err-checked_mul-in-Some
returns-in_err-checked_mul-in-Some c =
    c.from_residual-in_err-checked_mul-in-Some.ensures
    ∙ dollars_large c.args.word.now c.in_ok-whole-in-Some.field-0 (c.in_ok-whole-in-Some.ensures ∙ ap whole_of (front_is c.args.word.now c.in-Some.point c.in-Some.ensures)) c.in_err-checked_mul-in-Some.ensures

pub returns-in_err-decimals-in-Some : goal.returns-in_err-decimals-in-Some
returns-in_err-decimals-in-Some c =
    c.from_residual-in_err-decimals-in-Some.ensures
    ∙ dollars_no_decimals c.args.word.now (point_below c.args.word.now c.in-Some.point c.in-Some.ensures) (c.in_err-decimals-in-Some.ensures ∙ ap decimals_of (back_is c.args.word.now c.in-Some.point c.in-Some.ensures))

pub returns-in_ok-decimals-in-Some : goal.returns-in_ok-decimals-in-Some
returns-in_ok-decimals-in-Some c =
    let h = c.in_ok-checked_mul-in-Some.ensures in
    let P : ℕ → Type 0 = λ n. SomeIff c.checked_add.result (n + c.in_ok-decimals-in-Some.field-0 < 2 ^ 64) (n + c.in_ok-decimals-in-Some.field-0) in
    dollars_full c.args.word.now c.in_ok-whole-in-Some.field-0 c.in_ok-decimals-in-Some.field-0 c.checked_add.result
    (c.in_ok-whole-in-Some.ensures ∙ ap whole_of (front_is c.args.word.now c.in-Some.point c.in-Some.ensures))
    (point_below c.args.word.now c.in-Some.point c.in-Some.ensures)
    (c.in_ok-decimals-in-Some.ensures ∙ ap decimals_of (back_is c.args.word.now c.in-Some.point c.in-Some.ensures))
    (subst P h.1 c.checked_add.ensures)
