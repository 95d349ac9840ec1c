use Rattle.std.proofs.Common.{◌≡◌, [], false, eqb, length, get_or, drop, sym, ap, ◌∙◌, arith}
use Rattle.std.specs.Option.{option_copied, option_map}
use Rattle.std.proofs.lemmas.Bool.{ne_eqb}
use Rattle.std.proofs.lemmas.Map.Entries.{option_filter}
use Rattle.std.proofs.lemmas.Option.{get_or_from_slice_get}
use Rattle.script.specs.Grammar.{words, part, line_tokens}
use Rattle.script.specs.Steps.{letter_form, any_form, known, meaning}
use Rattle.script.proofs.steps.Laws.{first_letter, no_step, kept_step, any_letter}
use Rattle.script.proofs.steps.parse.Goals as goal

pub returns-then-not-has_letter-clause-says : goal.returns-then-not-has_letter-clause-says
returns-then-not-has_letter-clause-says g c = no_step _ c.args.size c.args.line.now (sym c.if-not-has_letter.ensures)

pub returns-then-letter-eq77-clause-says : goal.returns-then-letter-eq77-clause-says
returns-then-letter-eq77-clause-says g c =
    let line = c.args.line.now in
    let word = c.in-Some-len1.field-0.now in
    let first : part (words line) 0 ≡ word = get_or_from_slice_get (words line) 0 word [] (sym c.in-Some-len1.ensures) in
    let one : length (part (words line) 0) ≡ 1 = omega (arith, ap length first) in
    let letter : get_or word 0 0 ≡ get_or line 0 0 = ap (λ w. get_or w 0 0) (sym first) ∙ first_letter line one in
    let rest = drop 1 (words line) in
    let named : any_form c.args.size line ≡ letter_form c.args.size 77 rest (line_tokens line) =
    any_letter c.args.size line one ∙ ap (λ l. letter_form c.args.size l rest (line_tokens line)) (sym letter ∙ c.if-letter-eq77.true) in
    c.known_name.ensures.says ∙ ap (option_filter (known _)) (sym named)

pub returns-clause-says : goal.returns-clause-says
returns-clause-says g c =
    let line = c.args.line.now in
    let word = c.in-Some-len1.field-0.now in
    let first : part (words line) 0 ≡ word = get_or_from_slice_get (words line) 0 word [] (sym c.in-Some-len1.ensures) in
    let one : length (part (words line) 0) ≡ 1 = omega (arith, ap length first) in
    let letter : get_or word 0 0 ≡ get_or line 0 0 = ap (λ w. get_or w 0 0) (sym first) ∙ first_letter line one in
    let rest = drop 1 (words line) in
    let of_letter : option_map meaning c.step_of.result ≡ letter_form c.args.size (get_or line 0 0) rest (line_tokens line) =
    c.step_of.ensures.says rest
    ∙ ap (λ l. letter_form c.args.size l rest (option_copied c.in_ok-tokens.tokens)) letter
    ∙ ap (letter_form c.args.size (get_or line 0 0) rest) c.in_ok-tokens.ensures in
    let no_M : eqb (get_or line 0 0) 77 ≡ false = ne_eqb _ _ (λ e. c.if-letter-eq77.false (letter ∙ e)) in
    of_letter
    ∙ kept_step _ c.args.size line rest (line_tokens line) no_M (sym c.if-not-has_letter.ensures)
    ∙ ap (option_filter (known _)) (sym (any_letter c.args.size line one))
