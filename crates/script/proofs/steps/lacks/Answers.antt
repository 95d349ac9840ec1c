use Rattle.std.proofs.Common.{rules, sym, ◌∙◌}
use Rattle.std.proofs.lemmas.Iterator.{YieldsList-from_slice}
use Rattle.std.proofs.lemmas.Iterator.Search.{all_from_yields_List}
use Rattle.std.proofs.lemmas.List.Folds.{list_all-map}
use borrow.Author.Tests.{tests}
use Rattle.script.specs.Grammar.{value}
use Rattle.script.proofs.steps.Laws.{other}
use Rattle.script.proofs.steps.lacks.Goals as goal

pub returns : goal.returns
returns c =
    let test = other c.args.n in
    let ts = c.args.section.now in
    all_from_yields_List (λ t. test (value t)) _ _ _ c.all.ensures.ran (YieldsList-from_slice ts cc) (λ x b q k. search (rules, tests))
    ∙ sym (list_all-map test value ts)
