use Rattle.std.proofs.Common.{◌-◌, ◌++◌, length, get_or, take, drop, string_bytes, sym, ap, ◌∙◌, append-nil, arith}
use Rattle.std.proofs.lemmas.Result.{err_from_is_err_and}
use Rattle.text.specs.Hex.{hex_pair}
use Rattle.text.proofs.Keeping.{keeps_more, keeps_then}
use Rattle.text.proofs.Showing.{none_shown, all_shown}
use Rattle.text.proofs.Writing.{more_behind}
use Rattle.text.proofs.hex.push_hex.Goals as goal

pub returns-in_default : goal.returns-in_default
returns-in_default c =
    let out = string_bytes c.args.out.now in
    sym (append-nil out) ∙ ap (λ l. out ++ l) (none_shown c.args.bytes.now c.in_default.len_below)

pub returns-in_err-push_byte-2 : goal.returns-in_err-push_byte-2
returns-in_err-push_byte-2 c =
    let e = err_from_is_err_and c.from_residual-in_err-push_byte-2.result c.from_residual-in_err-push_byte-2.ensures.1 in
    let start = string_bytes c.args.out.now in
    let before = string_bytes c.loop-b.out in
    let mid = string_bytes c.push.new.self in
    let after = string_bytes c.push_byte-in-loop-b.new.out in
    let p = c.loop-b.invariant in
    let q = c.in_ok-push.ensures.bytes ∙ ap (λ l. before ++ l) (c.push.ensures.ascii (omega arith)) in
    rw e.1 (keeps_then start mid after (keeps_then start before mid (rw p (keeps_more start _)) (rw q (keeps_more before _))) c.in_err-push_byte-2.ensures)

pub loop-b-preserved : goal.loop-b-preserved
loop-b-preserved c =
    let bs = c.args.bytes.now in
    let before = string_bytes c.loop-b.out in
    let blank = c.in_ok-push.ensures.bytes ∙ ap (λ l. before ++ l) (c.push.ensures.ascii (omega arith)) in
    more_behind (string_bytes c.args.out.now) before _ _ (hex_pair (get_or bs 0 0)) (take (length bs - 1) (drop 1 bs)) c.loop-b.b-index c.loop-b-test.true c.loop-b.invariant blank c.in_ok-push_byte-2.ensures

pub returns : goal.returns
returns c = c.loop-b.invariant ∙ ap (λ l. string_bytes c.args.out.now ++ l) (all_shown c.args.bytes.now c.loop-b.b-index c.in-len1-up.len_at_least c.loop-b-test.false)
