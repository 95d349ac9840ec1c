use Rattle.std.proofs.Common.{rules, ◌≡◌, ◌<◌, ◌≤◌, ℕ, List, [], Bor, Option, Some, None, MatchOption, length, sym, ap, ◌∙◌, inl, inr, arith}
use Rattle.std.specs.List.{slice_get}
use Rattle.std.specs.Option.{option_map}
use Rattle.std.proofs.lemmas.List.{length-map}
use Rattle.std.proofs.lemmas.Option.{none-some, slice_get-get_or, slice_get_within, get_or_from_slice_get}
use Rattle.std.proofs.lemmas.Bool.{cases_lt}
use Rattle.std.proofs.lemmas.Iterator.Consumers.{nth_from_yields_List}
use Rattle.std.proofs.lemmas.Iterator.Splits.{YieldsList-from_slice_split}
use borrow.Author.Tests.{tests}
use Rattle.script.specs.Grammar.{is_slash, value, values, split, part, sections}
use Rattle.script.specs.declared.grammar.Token.{Token}
use Rattle.script.proofs.grammar.Laws.{part_values}
use Rattle.script.proofs.grammar.section.Goals as goal

found : (ts : List Token) (k : ℕ) (r : Option (Bor (List Token))) → option_map (λ s. s.now) r ≡ slice_get (split is_slash ts) k
    → MatchOption r (length (sections ts) ≤ k) (λ s. (k < length (sections ts)) × (values s.now ≡ part (sections ts) k) × (length s.now ≡ length (part (sections ts) k)))
found ts k None is =
    elim (cases_lt k (length (split is_slash ts))) [
      | inl within ↦ absurd (none-some _ (is ∙ slice_get-get_or (split is_slash ts) k [] within))
      | inr past ↦ omega (arith, past, length-map (split is_slash ts) values)
    ]
found ts k (Some s) is =
    let here = slice_get_within (split is_slash ts) k s.now (sym is) in
    let same : values s.now ≡ part (sections ts) k =
    ap values (sym (get_or_from_slice_get (split is_slash ts) k s.now [] (sym is))) ∙ sym (part_values (split is_slash ts) k) in
    (omega (arith, here, length-map (split is_slash ts) values), same, sym (length-map s.now value) ∙ ap length same)

pub returns : goal.returns
returns c =
    found c.args.tokens.now c.args.place c.nth.result (
    nth_from_yields_List _ _ _ c.nth.ensures.ran
    (YieldsList-from_slice_split _ is_slash c.args.tokens.now c.split.ensures.rest c.split.ensures.done c.split.ensures.closure (λ x b q k. search (rules, tests))))
