-- Laws of the grammar's parts.
use Rattle.std.proofs.Common.{◌≡◌, ℕ, zero, suc, ◌<◌, ◌≤◌, Bool, not, List, [], ◌∷◌, ◌++◌, map, length, get_or, take, drop, Some, None, Option, sym, refl, ap, ◌∙◌, inl, inr, one-add, arith, length-drop, take_all}
use Rattle.std.specs.List.{onto_first}
use Rattle.std.proofs.lemmas.List.Sums.{prefix_len-le-length}
use Rattle.std.proofs.lemmas.List.{length-map, length-take-le, drop_all}
use Rattle.std.proofs.lemmas.Bool.{cases_Bool}
use Rattle.script.specs.Grammar.{split, before, token, tokens, also, is_slash, value, values, sections, part}
use Rattle.script.specs.declared.grammar.Token.{Token}

-- ## Tokens, word by word

-- the tokens of words, and those of more words
abbrev both : Option (List Token) → Option (List Token) → Option (List Token)
both None more = None
both (Some ts) None = None
both (Some ts) (Some us) = Some (ts ++ us)

both_nil : (more : Option (List Token)) → both (Some []) more ≡ more
both_nil None = refl
both_nil (Some ts) = refl

also_both : (one : Option Token) (ts more : Option (List Token)) → also one (both ts more) ≡ both (also one ts) more
also_both None ts more = refl
also_both (Some t) None more = refl
also_both (Some t) (Some ts) None = refl
also_both (Some t) (Some ts) (Some us) = refl

tokens-append : (ws vs : List (List ℕ)) → tokens (ws ++ vs) ≡ both (tokens ws) (tokens vs)
tokens-append [] vs = sym (both_nil (tokens vs))
tokens-append (w ∷ ws) vs = ap (also (token w)) (tokens-append ws vs) ∙ also_both (token w) (tokens ws) (tokens vs)

-- one word more
pub tokens_push : (ws : List (List ℕ)) (ts : List Token) (w : List ℕ) (t : Token) → tokens ws ≡ Some ts → token w ≡ Some t
    → tokens (ws ++ w ∷ []) ≡ Some (ts ++ t ∷ [])
tokens_push ws ts w t so_far one = tokens-append ws (w ∷ []) ∙ rw (so_far, one) refl

also_none : (one : Option Token) → also one None ≡ None
also_none None = refl
also_none (Some t) = refl

-- a word that is no token
pub tokens_fail : (ws : List (List ℕ)) (n : ℕ) (w : List ℕ) → (n < length ws) × (w ≡ get_or ws n w) → token w ≡ None → tokens ws ≡ None
tokens_fail [] n w is none = absurd (omega arith)
tokens_fail (v ∷ ws) zero w is none = ap (λ x. also (token x) (tokens ws)) (sym is.1) ∙ rw none refl
tokens_fail (v ∷ ws) (suc n) w is none = ap (also (token v)) (tokens_fail ws n w (omega arith, is.1) none) ∙ also_none (token v)

-- ## Parts, one by one

module _ {A : Type 0} (test : A → Bool) where
  -- the first part, and the others
  pub split_cut : (xs : List A) → split test xs ≡ take (before test xs) xs ∷ drop 1 (split test (drop (before test xs) xs))
  split_cut [] = refl
  split_cut (x ∷ xs) =
      elim (cases_Bool (test x)) [
        | inl passes ↦ rw (passes, passes) refl
        | inr fails ↦ rw (fails, one-add) (ap (onto_first x) (split_cut xs))
      ]

  -- an element that passes stands there, or the end
  pub before_there : (xs : List A) → before test (drop (before test xs) xs) ≡ 0
  before_there [] = refl
  before_there (x ∷ xs) =
      elim (cases_Bool (test x)) [
        | inl passes ↦ rw (passes, passes) refl
        | inr fails ↦ rw (fails, one-add) (before_there xs)
      ]

  pub first-is : (xs : List A) → part (split test xs) 0 ≡ take (before test xs) xs
  first-is xs = ap (λ ps. part ps 0) (split_cut xs)

  pub first_long : (xs : List A) → length (part (split test xs) 0) ≡ before test xs
  first_long xs = ap length (first-is xs) ∙ length-take-le _ xs (prefix_len-le-length (λ x. not (test x)) xs)

  -- where nothing passes, all is one part
  pub split_whole : (xs : List A) → before test xs ≡ length xs → split test xs ≡ xs ∷ []
  split_whole xs whole =
      split_cut xs
      ∙ ap (λ n. take n xs ∷ drop 1 (split test (drop n xs))) whole
      ∙ ap (λ p. p ∷ drop 1 (split test (drop (length xs) xs))) (take_all (length xs) xs (omega arith))
      ∙ ap (λ r. xs ∷ drop 1 (split test r)) (drop_all (length xs) xs (omega arith))

  there_more : (ys : List A) → 0 < length ys → before test ys ≡ 0 → 2 ≤ length (split test ys)
  there_more [] some here = absurd (omega arith)
  there_more (y ∷ ys) some here =
      elim (cases_Bool (test y)) [
        | inl passes ↦ rw passes (omega (arith, ap length (split_cut ys)))
        | inr fails ↦ let one : suc (before test ys) ≡ 0 = rw (fails, one-add) at here in absurd (omega arith)
      ]

  -- where an element passes, there are two parts at least
  pub split_more : (xs : List A) → before test xs < length xs → 2 ≤ length (split test xs)
  split_more xs less =
      let rest = drop (before test xs) xs in
      omega (arith, there_more rest (omega (arith, less, length-drop (before test xs) xs)) (before_there xs), ap length (split_cut xs), length-drop 1 (split test rest))

  -- past an element that passes, the other parts are those of what is left
  pub split_next : (ys : List A) → 0 < length ys → before test ys ≡ 0 → drop 1 (split test ys) ≡ split test (drop 1 ys)
  split_next [] some here = absurd (omega arith)
  split_next (y ∷ ys) some here =
      elim (cases_Bool (test y)) [
        | inl passes ↦ rw passes refl
        | inr fails ↦ let one : suc (before test ys) ≡ 0 = rw (fails, one-add) at here in absurd (omega arith)
      ]

  pub before_within : (xs : List A) → before test xs ≤ length xs
  before_within xs = prefix_len-le-length (λ x. not (test x)) xs

-- ## Sections

-- the values of a part are the part's values
pub part_values : (ps : List (List Token)) (k : ℕ) → part (map values ps) k ≡ values (part ps k)
part_values [] k = refl
part_values (p ∷ ps) zero = refl
part_values (p ∷ ps) (suc k) = part_values ps k

-- the first section ends before the first slash
pub first_section_long : (ts : List Token) → length (part (sections ts) 0) ≡ before is_slash ts
first_section_long ts =
    ap length (part_values (split is_slash ts) 0) ∙ (length-map (part (split is_slash ts) 0) value ∙ first_long is_slash ts)

pub first_section_is : (ts : List Token) → part (sections ts) 0 ≡ values (take (before is_slash ts) ts)
first_section_is ts = part_values (split is_slash ts) 0 ∙ ap values (first-is is_slash ts)
