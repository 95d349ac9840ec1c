-- Lagrange's formula, and a polynomial through any values. Assumes nothing.
use Rattle.std.proofs.Common.{◌≡◌, suc, ◌+◌, ◌≤◌, ◌≢◌, List, [], ◌∷◌, ◌++◌, length, sym, refl, ap, ◌∙◌, ap₂, inl, inr, append_assoc, arith, length-append}
use Rattle.fields.specs.Field.{Ops, FieldLaws, sub}
use Rattle.std.specs.List.{AllByRecursion}
use Rattle.std.proofs.lemmas.List.{length-map}
use Rattle.circle.specs.Lists.{In, Distinct}
use Rattle.circle.specs.Polynomial.{Through, eval, points, constant}
use Rattle.fields.proofs.Ring.{ring, forms}
use Rattle.circle.proofs.Lists.{all_of, all-at, mem_left, mem_right, mem-map, all_map, distinct_middle}
use Rattle.circle.proofs.polynomial.Values.{padd, scale, linear, eval_padd, eval_scale, eval_linear, padded, length_padd, length_scale, length_linear}
use Rattle.circle.proofs.polynomial.Unique.{sub≢zero, unique}

-- the polynomials of `constant` and `combine`
module _ {K : Type 0} (F : Ops K) where
  -- Lagrange's sum, with the points `before` among the others: the form that an induction can go along
  abbrev pub combine : List K → List (K × K) → K → K
  combine before [] z = F.zero
  combine before (p ∷ shares) z =
      F.add (F.mul (constant F (before ++ points shares) p.0 z) p.1) (combine (before ++ (p.0 ∷ [])) shares z)

  abbrev pub constant_poly : List K → K → List K
  constant_poly [] s = F.one ∷ []
  constant_poly (k ∷ others) s =
      let r = F.inv (sub F s k) in linear F (F.mul (F.neg k) r) r (constant_poly others s)

  abbrev pub combine_poly : List K → List (K × K) → List K
  combine_poly before [] = []
  combine_poly before (p ∷ shares) =
      padd F (scale F p.1 (constant_poly (before ++ points shares) p.0)) (combine_poly (before ++ (p.0 ∷ [])) shares)

module _ {K : Type 0} {F : Ops K} (laws : FieldLaws F) where
  open F use {zero as 𝟘, one as 𝟙, add as ◌⊕◌, mul as ◌⊗◌, neg as ⊖◌, inv}

  infixl 65 ◌⊕◌
  infixl 70 ◌⊗◌
  infix 80 ⊖◌
  infixl 65 ◌⊝◌
  abbrev ◌⊝◌ : K → K → K
  x ⊝ y = sub F x y

  -- ## The constants

  constant_other : (others : List K) (s z : K) → In z others → constant F others s z ≡ 𝟘
  constant_other [] s z m = absurd m
  constant_other (k ∷ others) s z (inl e) =
      ap (λ u. (z ⊝ u) ⊗ inv (s ⊝ k) ⊗ constant F others s z) (sym e)
      ∙ ring laws.ring (z ∷ inv (s ⊝ k) ∷ constant F others s z ∷ []) (search forms depth 9) (search forms depth 9) refl
  constant_other (k ∷ others) s z (inr m) =
      ap (λ u. (z ⊝ k) ⊗ inv (s ⊝ k) ⊗ u) (constant_other others s z m)
      ∙ ring laws.ring (z ∷ k ∷ inv (s ⊝ k) ∷ []) (search forms depth 9) (search forms depth 9) refl

  constant_self : (others : List K) (s : K) → AllByRecursion (λ k. s ≢ k) others → constant F others s s ≡ 𝟙
  constant_self [] s h = refl
  constant_self (k ∷ others) s h =
      ap₂ (λ u v. u ⊗ v) (laws.mul-inv (s ⊝ k) (sub≢zero laws s k h.0)) (constant_self others s h.1) ∙ laws.ring.mul-one 𝟙

  eval_constant : (others : List K) (s z : K) → eval F (constant_poly F others s) z ≡ constant F others s z
  eval_constant [] s z = ring laws.ring (z ∷ []) (search forms depth 9) (search forms depth 9) refl
  eval_constant (k ∷ others) s z =
      eval_linear laws.ring (⊖ k ⊗ inv (s ⊝ k)) (inv (s ⊝ k)) (constant_poly F others s) z
      ∙ ap (λ u. (⊖ k ⊗ inv (s ⊝ k) ⊕ inv (s ⊝ k) ⊗ z) ⊗ u) (eval_constant others s z)
      ∙ ring laws.ring (z ∷ k ∷ inv (s ⊝ k) ∷ constant F others s z ∷ []) (search forms depth 9) (search forms depth 9) refl

  length_constant : (others : List K) (s : K) → length (constant_poly F others s) ≡ suc (length others)
  length_constant [] s = refl
  length_constant (k ∷ others) s =
      length_linear laws.ring (⊖ k ⊗ inv (s ⊝ k)) (inv (s ⊝ k)) (constant_poly F others s) ∙ ap suc (length_constant others s)

  -- ## The sum

  combine_before : (before : List K) (shares : List (K × K)) (z : K) → In z before → combine F before shares z ≡ 𝟘
  combine_before before [] z m = refl
  combine_before before (p ∷ shares) z m =
      ap₂ (λ u v. u ⊗ p.1 ⊕ v)
      (constant_other (before ++ points shares) p.0 z (mem_left before (points shares) z m))
      (combine_before (before ++ (p.0 ∷ [])) shares z (mem_left before (p.0 ∷ []) z m))
      ∙ ring laws.ring (p.1 ∷ []) (search forms depth 9) (search forms depth 9) refl

  -- at the point of a share the sum is the value of the share
  combine_at : (before : List K) (shares : List (K × K)) → Distinct (before ++ points shares)
      → AllByRecursion (λ p. combine F before shares p.0 ≡ p.1) shares
  combine_at before [] d = tt
  combine_at before (p ∷ shares) d =
      let before' = before ++ (p.0 ∷ []) in
      let rest = combine_at before' shares (rw append_assoc d) in
      (at_p, all_of _ shares (λ q m. at_other q m (all-at _ shares rest q m)))
    where
      at_p : combine F before (p ∷ shares) p.0 ≡ p.1
      at_p =
          ap₂ (λ u v. u ⊗ p.1 ⊕ v)
          (constant_self (before ++ points shares) p.0 (distinct_middle before p.0 (points shares) d))
          (combine_before (before ++ (p.0 ∷ [])) shares p.0 (mem_right before (p.0 ∷ []) p.0 (inl refl)))
          ∙ ring laws.ring (p.1 ∷ []) (search forms depth 9) (search forms depth 9) refl

      at_other : (q : K × K) → In q shares → combine F (before ++ (p.0 ∷ [])) shares q.0 ≡ q.1
          → combine F before (p ∷ shares) q.0 ≡ q.1
      at_other q m e =
          ap₂ (λ u v. u ⊗ p.1 ⊕ v)
          (constant_other (before ++ points shares) p.0 q.0
          (mem_right before (points shares) q.0 (mem-map (λ r. r.0) shares q m)))
          e
          ∙ ring laws.ring (p.1 ∷ q.1 ∷ []) (search forms depth 9) (search forms depth 9) refl

  eval_combine : (before : List K) (shares : List (K × K)) (z : K)
      → eval F (combine_poly F before shares) z ≡ combine F before shares z
  eval_combine before [] z = refl
  eval_combine before (p ∷ shares) z =
      let w = constant_poly F (before ++ points shares) p.0 in
      eval_padd laws.ring (scale F p.1 w) (combine_poly F (before ++ (p.0 ∷ [])) shares) z
      ∙ ap₂ (λ u v. u ⊕ v)
      (eval_scale laws.ring p.1 w z
      ∙ ap (λ u. p.1 ⊗ u) (eval_constant (before ++ points shares) p.0 z)
      ∙ laws.ring.mul_comm p.1 _)
      (eval_combine (before ++ (p.0 ∷ [])) shares z)

  length_combine : (before : List K) (shares : List (K × K))
      → length (combine_poly F before shares) ≤ length before + length shares
  length_combine before [] = omega arith
  length_combine before (p ∷ shares) =
      let others = before ++ points shares in
      let w = constant_poly F others p.0 in
      let before' = before ++ (p.0 ∷ []) in
      omega (
        arith,
        length_padd laws.ring (scale F p.1 w) (combine_poly F before' shares),
        length_scale laws.ring p.1 w,
        length_constant others p.0,
        length-append before (points shares),
        length-map shares (λ r. r.0),
        length_combine before' shares,
        length-append before (p.0 ∷ []),
      )

  -- ## The two theorems

  -- a polynomial through any values, with as many coefficients as there are points
  pub interpolate : (shares : List (K × K)) → Distinct (points shares)
      → (f : List K) × (length f ≡ length shares) × Through F f shares
  interpolate shares d =
      let g = combine_poly F [] shares in
      let f = padded laws.ring g (length shares) (omega (arith, length_combine [] shares)) in
      let at = combine_at [] shares d in
      (f.0, f.1, all_of _ shares (λ p m. f.2 p.0 ∙ eval_combine [] shares p.0 ∙ all-at _ shares at p m))

  -- Lagrange's formula: the shares of a polynomial of at most as many coefficients give its value anywhere
  pub lagrange : (shares : List (K × K)) (f : List K) (z : K) → Distinct (points shares) → length f ≤ length shares
      → Through F f shares → eval F f z ≡ combine F [] shares z
  lagrange shares f z d n h =
      let f' = padded laws.ring f (length shares) n in
      let g = combine_poly F [] shares in
      let g' = padded laws.ring g (length shares) (omega (arith, length_combine [] shares)) in
      let at = combine_at [] shares d in
      let agree : AllByRecursion (λ s. eval F f'.0 s ≡ eval F g'.0 s) (points shares) =
      all_map (λ p. p.0) _ shares (all_of _ shares (λ p m.
      f'.2 p.0 ∙ all-at _ shares h p m ∙ sym (g'.2 p.0 ∙ eval_combine [] shares p.0 ∙ all-at _ shares at p m))) in
      let same = unique laws (points shares) f'.0 g'.0 d
      (omega (arith, length-map shares (λ (p : K × K). p.0), f'.1)) (f'.1 ∙ sym g'.1) agree in
      sym (f'.2 z) ∙ ap (λ u. eval F u z) same ∙ g'.2 z ∙ eval_combine [] shares z
