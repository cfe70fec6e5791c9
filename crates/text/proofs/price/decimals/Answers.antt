use Rattle.std.proofs.Common.{◌-◌, ◌^◌, ◌≤◌, length, sym, ap, ◌∙◌, arith}
use Rattle.text.proofs.Pricing.{Unit_of, decimals_none, decimals_some}
use Rattle.text.proofs.price.decimals.Goals as goal
use Rattle.text.proofs.price.decimals.Goals.{in-1, in-2, in-3, in-4}

pub returns-in_err-whole : goal.returns-in_err-whole
returns-in_err-whole c =
    let h : length c.args.digits.now ≤ 4 = elim c.match-digits.branch [ in-1 w ↦ omega arith | in-2 w ↦ omega arith | in-3 w ↦ omega arith | in-4 w ↦ omega arith ] in
    c.from_residual.ensures ∙ decimals_none c.args.digits.now h c.in_err-whole.ensures

pub returns : goal.returns
returns c =
    let u : Unit_of (length c.args.digits.now) c.match-digits.unit = elim c.match-digits.branch [
      | in-1 w ↦ (omega arith, omega arith, w.unit-is ∙ sym (ap (λ n. 10 ^ (4 - n)) w.in-1.is))
      | in-2 w ↦ (omega arith, omega arith, w.unit-is ∙ sym (ap (λ n. 10 ^ (4 - n)) w.in-2.is))
      | in-3 w ↦ (omega arith, omega arith, w.unit-is ∙ sym (ap (λ n. 10 ^ (4 - n)) w.in-3.is))
      | in-4 w ↦ (omega arith, omega arith, w.unit-is ∙ sym (ap (λ n. 10 ^ (4 - n)) w.in-4.is))
    ] in
    decimals_some c.args.digits.now c.in_ok-whole.field-0 c.match-digits.unit c.checked_mul.result u c.in_ok-whole.ensures c.checked_mul.ensures
