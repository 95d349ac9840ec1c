use Rattle.std.proofs.Common.{drop, Some, sym, ap, ◌∙◌, arith}
use Rattle.std.specs.Option.{option_map}
use Rattle.std.proofs.lemmas.List.{take_rest}
use Rattle.script.specs.Steps.{Stated, card_of}
use Rattle.script.proofs.steps.Laws.{next_found}
use Rattle.script.proofs.steps.next_card.Goals as goal

pub returns-in_err-card : goal.returns-in_err-card
returns-in_err-card c =
    let us = c.in_ok-after.after.now in
    let n = c.section_end-end.result in
    let found =
    next_found c.args.tokens.now us n (omega (arith, c.in_ok-after.ensures.cases.1)) (sym (ap (drop 1) c.in_ok-after.ensures.cases.0)) c.section_end-end.ensures.value in
    rw c.from_residual-in_err-card.ensures (ap (option_map (λ (card : Stated). (card, drop n us))) c.in_err-card.ensures ∙ found)

pub returns : goal.returns
returns c =
    let us = c.in_ok-after.after.now in
    let n = c.section_end-end.result in
    let found =
    next_found c.args.tokens.now us n (omega (arith, c.in_ok-after.ensures.cases.1)) (sym (ap (drop 1) c.in_ok-after.ensures.cases.0)) c.section_end-end.ensures.value in
    ap (λ more. Some (card_of c.in_ok-card.card, more)) (take_rest us n)
    ∙ ap (option_map (λ (card : Stated). (card, drop n us))) c.in_ok-card.ensures ∙ found
