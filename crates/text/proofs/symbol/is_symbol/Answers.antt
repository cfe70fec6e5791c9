use Rattle.std.proofs.Common.{◌≡◌, ◌<◌, ◌≤◌, length, ◌∙◌, rules, tests, arith}
use Rattle.std.proofs.lemmas.Iterator.{YieldsList-from_slice}
use Rattle.std.proofs.lemmas.Iterator.Search.{all_from_yields_List}
use Rattle.std.specs.Char.{is_ascii_graphic}
use Rattle.std.specs.List.{list_all}
use Rattle.text.proofs.Padding.{symbol_all}
use Rattle.text.proofs.symbol.is_symbol.Goals.{in-1-to-8, in_default, in_default-2}
use Rattle.text.proofs.symbol.is_symbol.Goals as goal

pub returns-then-matches : goal.returns-then-matches
returns-then-matches c =
    let size : (0 < length c.args.word.now) × (length c.args.word.now ≤ 8) = elim c.if-matches-2.branch [ in-1-to-8 w ↦ (omega arith, omega arith) | in_default w ↦ absurd cc | in_default-2 w ↦ absurd cc ] in
    let all : c.all.result ≡ list_all is_ascii_graphic c.args.word.now = all_from_yields_List is_ascii_graphic _ _ c.all.result c.all.ensures.ran (YieldsList-from_slice _ c.iter.ensures.rest) (λ x b q k. search (rules, tests)) in
    all ∙ symbol_all c.args.word.now size.0 size.1
