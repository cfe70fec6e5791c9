use Rattle.std.proofs.Common.{◌&&◌, refl, ◌∙◌, rules, tests}
use Rattle.std.proofs.lemmas.Iterator.{YieldsList-from_slice}
use Rattle.std.proofs.lemmas.Iterator.Search.{all_from_yields_List}
use Rattle.std.proofs.lemmas.List.Recursion.{same_from_clauses}
use Rattle.std.specs.List.{list_all}
use Rattle.feed.specs.Layouts.{printable, symbol_fit}
use Rattle.feed.proofs.decode.is_symbol.Goals as goal

pub returns : goal.returns
returns c =
    let bytes = c.args.symbol.now in
    all_from_yields_List printable _ _ _ c.all.ensures.ran (YieldsList-from_slice bytes cc) (λ x b q k. search (rules, tests))
    ∙ same_from_clauses (list_all printable) symbol_fit (λ byte fits. printable byte && fits) refl (λ _ _. refl) (λ _ _. refl) bytes
