use Rattle.std.proofs.Common.{rules, ◌≡◌, ℕ, ◌+◌, ◌&&◌, List, [], ◌∷◌, drop, refl, sym, ap, ◌∙◌}
use Rattle.std.specs.List.{enumerate_from, list_all}
use Rattle.std.proofs.lemmas.Iterator.{YieldsList-from_slice}
use Rattle.std.proofs.lemmas.Iterator.Consumers.{YieldsList-from_enumerate}
use Rattle.std.proofs.lemmas.Iterator.Search.{all_from_yields_List}
use Rattle.std.proofs.lemmas.List.{drop-drop, take_rest}
use borrow.Author.Tests.{tests}
use Rattle.script.specs.Grammar.{value, values}
use Rattle.script.specs.Steps.{once}
use Rattle.script.specs.declared.grammar.Token.{Token}
use Rattle.script.proofs.steps.Laws.{other}
use Rattle.script.proofs.steps.is_once.Goals as goal

-- the number at each place stands nowhere after it
once_each : (whole ts : List Token) (n : ℕ) → drop n whole ≡ ts
    → list_all (λ p. list_all (other (value p.1)) (values (drop (p.0 + 1) whole))) (enumerate_from n ts) ≡ once (values ts)
once_each whole [] n is = refl
once_each whole (t ∷ ts) n is =
    let next : drop (n + 1) whole ≡ ts = sym (drop-drop 1 n whole) ∙ ap (drop 1) is in
    let each = λ (p : ℕ × Token). list_all (other (value p.1)) (values (drop (p.0 + 1) whole)) in
    ap (λ r. list_all (other (value t)) (values r) && list_all each (enumerate_from (n + 1) ts)) next
    ∙ ap (λ b. list_all (other (value t)) (values ts) && b) (once_each whole ts (n + 1) next)

pub returns : goal.returns
returns c =
    let ts = c.args.section.now in
    all_from_yields_List (λ p. list_all (other (value p.1)) (values (drop (p.0 + 1) ts))) _ _ _ c.all.ensures.ran
    (YieldsList-from_enumerate (YieldsList-from_slice ts (cc)) (cc))
    (λ x b q k. search (rules, tests, take_rest))
    ∙ once_each ts ts 0 refl
