use Rattle.std.proofs.Common.{◌≡◌, ◌+◌, ◌-◌, take, drop, ap, ◌∙◌, arith}
use Rattle.feed.proofs.Lays.{cells_within}
use Rattle.feed.proofs.layout.field.Goals as goal

pub returns : goal.returns
returns g c =
    let bs = c.args.bytes.now in
    let place = c.args.place in
    let n : place + g.row.N - place ≡ g.row.N = omega arith in
    c.copy_from_slice.ensures.after ∙ ap (λ k. take k (drop place bs)) n ∙ cells_within bs g.row.N place c.requires
