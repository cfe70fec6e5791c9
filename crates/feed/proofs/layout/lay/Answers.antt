use Rattle.std.proofs.Common.{◌≡◌, ◌+◌, ◌-◌, ◌++◌, length, take, ap, ◌∙◌, arith}
use Rattle.std.proofs.lemmas.List.{drop-drop}
use borrow.Rule.Slice.PartMut.{put_mid}
use Rattle.feed.specs.Sending.{laid}
use Rattle.feed.proofs.layout.lay.Goals as goal

pub returns : goal.returns
unfolding laid
returns c =
    let b = c.args.buffer.now in
    let bs = c.args.bytes.now in
    let place = c.args.place in
    let n : place + length bs - place ≡ length bs = omega arith in
    (λ i. put_mid place (n i) b (c.copy_from_slice.ensures.after i)) ∙ ap (λ z. take place b ++ (bs ++ z)) (drop-drop (length bs) place b)
