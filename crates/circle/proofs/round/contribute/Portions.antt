-- A helper's portions, and the part that each id is given. Assumes nothing.
use Rattle.std.proofs.Common.{◌≡◌, ℕ, zero, suc, ◌^◌, ◌<◌, true, false, ◌≢◌, List, [], ◌∷◌, get_or, Some, sym, refl, ◌∙◌, inl, inr, arith}
use Rattle.std.specs.List.{slice_get}
use Rattle.std.proofs.lemmas.Bool.{cond-true, cond-false, eq-eqb, ne_eqb, both_ways}
use Rattle.fields.specs.Field.{Ops}
use Rattle.circle.specs.Ids.{member, members, rank}
use Rattle.circle.specs.Lists.{In, Distinct}
use Rattle.circle.proofs.Lists.{all-at}
use Rattle.circle.proofs.ids.Laws.{in_members, members_distinct, member_rank}
use Rattle.circle.specs.Contribute.{portion}

nth_in : {A : Type 0} (xs : List A) (k : ℕ) (x : A) → slice_get xs k ≡ Some x → In x xs
nth_in [] k x at = let z : ◌≡◌ {A = ℕ} 0 1 = cc in absurd (omega arith)
nth_in (y ∷ ys) zero x at = let e : x ≡ y = cc in inl e
nth_in (y ∷ ys) (suc k) x at = inr (nth_in ys k x at)

module _ {K : Type 0} (F : Ops K) (at : ℕ → K) where
  portion_nth : (is : List ℕ) (xs : List K) (h k : ℕ) → Distinct is → slice_get is k ≡ Some h → portion F at is xs h ≡ get_or xs k F.zero
  portion_nth [] xs h k differ stands = let z : ◌≡◌ {A = ℕ} 0 1 = cc in absurd (omega arith)
  portion_nth (i ∷ is) [] h k differ stands = refl
  portion_nth (i ∷ is) (x ∷ xs) h zero differ stands = let e : h ≡ i = cc in cond-true _ x _ (eq-eqb h i e)
  portion_nth (i ∷ is) (x ∷ xs) h (suc k) differ stands =
      let apart = all-at (λ j. i ≢ j) is differ.0 h (nth_in is k h stands) in
      cond-false _ x _ (ne_eqb h i (λ e. apart (sym e))) ∙ portion_nth is xs h k differ.1 stands

  portion_other : (is : List ℕ) (xs : List K) (h : ℕ) → (In h is → ⊥) → portion F at is xs h ≡ F.zero
  portion_other [] xs h out = refl
  portion_other (i ∷ is) [] h out = refl
  portion_other (i ∷ is) (x ∷ xs) h out =
      cond-false _ x _ (ne_eqb h i (λ e. out (inl e))) ∙ portion_other is xs h (λ m. out (inr m))

  -- the portion of a member stands at its rank
  pub portion_ranked : (set h : ℕ) (xs : List K) → set < 2 ^ 32 → member set h ≡ true → portion F at (members set) xs h ≡ get_or xs (rank set h) F.zero
  portion_ranked set h xs fits m = portion_nth (members set) xs h (rank set h) (members_distinct set) (member_rank set h fits m)

  pub portion_none : (set h : ℕ) (xs : List K) → member set h ≡ false → portion F at (members set) xs h ≡ F.zero
  portion_none set h xs out = portion_other (members set) xs h (λ m. both_ways (member set h) out (in_members set h m).1)
