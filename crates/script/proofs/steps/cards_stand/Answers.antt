use Rattle.std.proofs.Common.{rules, drop, sym, ap, ◌∙◌}
use Rattle.std.specs.List.{list_all}
use Rattle.std.proofs.lemmas.Iterator.Adapters.{YieldsList-from_skip}
use Rattle.std.proofs.lemmas.Iterator.Search.{all_from_yields_List}
use Rattle.std.proofs.lemmas.Iterator.Splits.{YieldsList-from_slice_split}
use Rattle.std.proofs.lemmas.List.{drop-map}
use Rattle.std.proofs.lemmas.List.Folds.{list_all-map}
use borrow.Author.Tests.{tests}
use Rattle.script.specs.Grammar.{is_slash, split, values}
use Rattle.script.specs.Steps.{card_stands}
use Rattle.script.proofs.steps.cards_stand.Goals as goal

pub returns : goal.returns
returns c =
    let test = card_stands c.args.size in
    let ts = c.args.tokens.now in
    all_from_yields_List (λ s. test (values s)) _ _ _ c.all.ensures.ran
    (YieldsList-from_skip 1 (YieldsList-from_slice_split _ is_slash ts (cc) (cc) (cc) (λ x b q k. search (rules, tests))) (cc))
    (λ x b q k. search (rules, tests))
    ∙ sym (list_all-map test values (drop 1 (split is_slash ts)))
    ∙ ap (list_all test) (sym (drop-map values 1 (split is_slash ts)))
