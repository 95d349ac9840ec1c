use Rattle.std.proofs.Common.{rules, ◌+◌, ap, ◌∙◌}
use Rattle.std.proofs.lemmas.Iterator.{YieldsList-from_slice}
use Rattle.std.proofs.lemmas.Iterator.Search.{position_from_yields_List}
use Rattle.std.proofs.lemmas.List.{take_rest}
use borrow.Author.Tests.{tests}
use Rattle.script.specs.Grammar.{is_space}
use Rattle.script.specs.Steps.{field_name}
use Rattle.script.proofs.steps.Spelling.{name_at, name_none}
use Rattle.script.proofs.steps.name_step.Goals as goal

pub returns-in_err-space : goal.returns-in_err-space
returns-in_err-space c =
    let line = c.args.line.now in
    c.from_residual.ensures
    ∙ name_none line (position_from_yields_List is_space _ _ _ c.in_err-space.ensures.ran (YieldsList-from_slice line cc) (λ x b q k. search (rules, tests)))

pub returns : goal.returns
returns c =
    let line = c.args.line.now in
    c.field_name.ensures
    ∙ ap field_name (take_rest line (c.in_ok-space.space + 1))
    ∙ name_at line c.in_ok-space.space (position_from_yields_List is_space _ _ _ c.in_ok-space.ensures.ran (YieldsList-from_slice line cc) (λ x b q k. search (rules, tests)))
