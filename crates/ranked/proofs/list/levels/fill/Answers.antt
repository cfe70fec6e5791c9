use Rattle.std.proofs.Common.{◌≡◌, ◌<◌, length, get_or, set, take, sym, ap, ◌∙◌, add-one, arith, rules}
use Rattle.ranked.specs.Level.{fills}
use Rattle.ranked.proofs.Fills.{fills_none, fills_more, fills_all}
use Rattle.ranked.proofs.list.levels.fill.Goals as goal

pub loop-i-init : goal.loop-i-init
loop-i-init g c = sym (fills_none g.T.Fill.fill c.args.entries.now)

pub loop-i-preserved : goal.loop-i-preserved
loop-i-preserved g c =
    let f = g.T.Fill.fill in
    let xs = c.args.entries.now in
    let ns = c.args.shares.now in
    let i = c.loop-i.i in
    let x = c.index-entries-i.result in
    let inv : c.loop-i.entries ≡ fills f xs (take i ns) = c.loop-i.invariant in
    let lt : i < length ns = search rules in
    let n : c.in-Some.share.now ≡ get_or ns i 0 = search rules in
    let here : x ≡ get_or (fills f xs (take i ns)) i x = c.index-entries-i.is ∙ ap (λ ys. get_or ys i x) inv in
    let v : c.filled.result ≡ f x (get_or ns i 0) = c.filled.ensures ∙ (λ k. f (sym c.index-entries-i.is k) (n k)) in
    (λ k. set (inv k) i (v k)) ∙ fills_more f xs ns i x lt (omega arith) here ∙ ap (λ k. fills f xs (take k ns)) (sym (add-one i))

pub returns-after-loop-i : goal.returns-after-loop-i
returns-after-loop-i g c = c.loop-i.invariant ∙ fills_all g.T.Fill.fill c.args.entries.now c.loop-i.i c.args.shares.now c.loop-i-test.false
