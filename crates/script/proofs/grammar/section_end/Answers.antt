use Rattle.std.proofs.Common.{rules, ◌≡◌, ltb, cond, not, List, Some, None, length, refl, ap, ◌∙◌, unwrap_or, arith, inl, inr}
use Rattle.std.proofs.lemmas.Bool.{cases_lt, lt-ltb, le-ltb}
use Rattle.std.proofs.lemmas.List.Sums.{prefix_len-le-length}
use Rattle.std.proofs.lemmas.Iterator.{YieldsList-from_slice}
use Rattle.std.proofs.lemmas.Iterator.Search.{position_from_yields_List}
use borrow.Author.Tests.{tests}
use Rattle.script.specs.Grammar.{before, is_slash}
use Rattle.script.specs.declared.grammar.Token.{Token}
use Rattle.script.proofs.grammar.section_end.Goals as goal

or_end : (ts : List Token) → unwrap_or (cond (ltb (before is_slash ts) (length ts)) (Some (before is_slash ts)) None) (length ts) ≡ before is_slash ts
or_end ts =
    elim (cases_lt (before is_slash ts) (length ts)) [
      | inl less ↦ rw (lt-ltb _ _ less) refl
      | inr past ↦ rw (le-ltb _ _ past) (omega (arith, prefix_len-le-length (λ t. not (is_slash t)) ts))
    ]

pub returns-clause-value : goal.returns-clause-value
returns-clause-value c =
    let ts = c.args.tokens.now in
    c.unwrap_or.ensures
    ∙ ap (λ o. unwrap_or o (length ts)) (position_from_yields_List is_slash _ _ _ c.position.ensures.ran (YieldsList-from_slice ts cc) (λ x b q k. search (rules, tests)))
    ∙ or_end ts
