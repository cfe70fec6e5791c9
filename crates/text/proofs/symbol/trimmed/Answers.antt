use Rattle.std.proofs.Common.{◌≡◌, ◌-◌, ◌<◌, length, get_or, ◌∙◌, rules}
use Rattle.text.proofs.Padding.{trim_more, trim_done}
use Rattle.text.proofs.symbol.trimmed.Goals as goal

pub loop-rest-preserved : goal.loop-rest-preserved
loop-rest-preserved c =
    let some : 0 < length c.loop-rest.rest.now = search rules in
    let last : get_or c.loop-rest.rest.now (length c.loop-rest.rest.now - 1) 0 ≡ 32 = search rules in
    trim_more c.loop-rest.rest.now some last ∙ c.loop-rest.invariant

pub returns-in_default-2 : goal.returns-in_default-2
returns-in_default-2 c =
    let some : 0 < length c.loop-rest.rest.now = search rules in
    let last : get_or c.loop-rest.rest.now (length c.loop-rest.rest.now - 1) 0 ≡ 32 → ⊥ = search rules in
    trim_done c.loop-rest.rest.now some last ∙ c.loop-rest.invariant
