-- Lagrange's constant does not depend on the order of the other points. Assumes nothing.
use Rattle.std.proofs.Common.{◌≡◌, ℕ, ◌≢◌, List, [], ◌∷◌, ◌++◌, map, sym, refl, ap, ◌∙◌, inl, inr}
use Rattle.std.proofs.lemmas.List.{map-append}
use Rattle.fields.specs.Field.{Ops, RingLaws, sub}
use Rattle.fields.proofs.Ring.{ring, forms}
use Rattle.circle.specs.Lists.{In, Distinct}
use Rattle.circle.specs.Polynomial.{constant}
use Rattle.circle.proofs.Lists.{all_of, all-at, distinct_middle}

-- ## A list around one of its elements

module _ {A : Type 0} where
  split_at : (ys : List A) (x : A) → In x ys → (before : List A) × (after : List A) × (ys ≡ before ++ (x ∷ after))
  split_at [] x m = absurd m
  split_at (y ∷ ys) x (inl e) = ([], ys, ap {B = List A} (λ z. z ∷ ys) (sym e))
  split_at (y ∷ ys) x (inr m) =
      let rest = split_at ys x m in
      (y ∷ rest.0, rest.1, ap {B = List A} (λ zs. y ∷ zs) rest.2)

  pub other_in : (before : List A) (x : A) (after : List A) (y : A) → x ≢ y → In y (before ++ (x ∷ after)) → In y (before ++ after)
  other_in [] x after y differ (inl e) = absurd (differ (sym e))
  other_in [] x after y differ (inr m) = m
  other_in (z ∷ before) x after y differ (inl e) = inl e
  other_in (z ∷ before) x after y differ (inr m) = inr (other_in before x after y differ m)

  pub in_whole : (before : List A) (x : A) (after : List A) (y : A) → In y (before ++ after) → In y (before ++ (x ∷ after))
  in_whole [] x after y m = inr m
  in_whole (z ∷ before) x after y (inl e) = inl e
  in_whole (z ∷ before) x after y (inr m) = inr (in_whole before x after y m)

  pub others_distinct : (before : List A) (x : A) (after : List A) → Distinct (before ++ (x ∷ after)) → Distinct (before ++ after)
  others_distinct [] x after d = d.1
  others_distinct (z ∷ before) x after d =
      (all_of _ (before ++ after) (λ y m. all-at (λ y. z ≢ y) (before ++ (x ∷ after)) d.0 y (in_whole before x after y m)), others_distinct before x after d.1)

-- ## The constant

module _ {K : Type 0} {F : Ops K} (laws : RingLaws F) (at : ℕ → K) (s z : K) where
  abbrev factor : K → K
  factor k = F.mul (sub F z k) (F.inv (sub F s k))

  constant_middle : (before : List K) (k : K) (after : List K)
      → constant F (before ++ (k ∷ after)) s z ≡ F.mul (factor k) (constant F (before ++ after) s z)
  constant_middle [] k after = refl
  constant_middle (b ∷ before) k after =
      ap (F.mul (factor b)) (constant_middle before k after)
      ∙ ring laws (factor b ∷ factor k ∷ constant F (before ++ after) s z ∷ []) (search forms) (search forms) refl

  -- lists of different ids that have the same ids give the same constant
  pub constant_same : (is js : List ℕ) → Distinct is → Distinct js → ((h : ℕ) → In h is → In h js) → ((h : ℕ) → In h js → In h is)
      → constant F (map at is) s z ≡ constant F (map at js) s z
  constant_same [] [] di dj to from = refl
  constant_same [] (j ∷ js) di dj to from = absurd (from j (inl refl))
  constant_same (i ∷ is) js di dj to from =
      let split = split_at js i (to i (inl refl)) in
      let before = split.0 in
      let after = split.1 in
      let d : Distinct (before ++ (i ∷ after)) = rw split.2 at dj in
      let rest = constant_same is (before ++ after) di.1 (others_distinct before i after d)
      (λ h m. other_in before i after h (all-at (λ k. i ≢ k) is di.0 h m) (rw split.2 at (to h (inr m))))
      (λ h m.
      elim (from h (rw split.2 (in_whole before i after h m))) [
        | inl e ↦ absurd (all-at (λ k. i ≢ k) (before ++ after) (distinct_middle before i after d) h m (sym e))
        | inr n ↦ n
      ]) in
      ap (F.mul (factor (at i))) (rest ∙ ap (λ ks. constant F ks s z) (map-append at before after))
      ∙ sym (constant_middle (map at before) (at i) (map at after))
      ∙ ap (λ ks. constant F ks s z) (sym (map-append at before (i ∷ after)) ∙ ap (map at) (sym split.2))
