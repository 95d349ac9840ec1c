-- n coefficients are determined by what the polynomial is at n different points. Assumes nothing.
use Rattle.std.proofs.Common.{◌≡◌, ◌≤◌, ◌≢◌, List, [], ◌∷◌, length, sym, refl, ap, ◌∙◌, ap₂, arith}
use Rattle.fields.specs.Field.{Ops, FieldLaws, sub}
use Rattle.std.specs.List.{AllByRecursion}
use Rattle.circle.specs.Lists.{Distinct}
use Rattle.circle.specs.Polynomial.{eval}
use Rattle.fields.proofs.Ring.{ring, forms, from_one}
use Rattle.circle.proofs.Lists.{all_of, all-at}
use Rattle.circle.proofs.polynomial.Values.{suffixes, quotient, factor, length_suffixes}

module _ {K : Type 0} {F : Ops K} (laws : FieldLaws F) where
  open F use {zero as 𝟘, one as 𝟙, add as ◌⊕◌, mul as ◌⊗◌, neg as ⊖◌, inv}

  infixl 65 ◌⊕◌
  infixl 70 ◌⊗◌
  infix 80 ⊖◌
  infixl 65 ◌⊝◌
  abbrev ◌⊝◌ : K → K → K
  x ⊝ y = sub F x y

  pub sub≢zero : (x y : K) → x ≢ y → x ⊝ y ≢ 𝟘
  sub≢zero x y h e =
      h (from_one laws.ring 𝟙 e (ring laws.ring (x ∷ y ∷ []) (search forms depth 9) (search forms depth 9) refl))

  pub mul_cancel : (x y z : K) → x ≢ 𝟘 → x ⊗ y ≡ x ⊗ z → y ≡ z
  mul_cancel x y z h e = over y ∙ ap (λ u. inv x ⊗ u) e ∙ sym (over z)
    where
      over : (u : K) → u ≡ inv x ⊗ (x ⊗ u)
      over u =
          from_one laws.ring (⊖ u) (laws.mul-inv x h)
          (ring laws.ring (u ∷ x ∷ inv x ∷ []) (search forms depth 9) (search forms depth 9) refl)

  add_cancel_right : (x y z : K) → y ⊕ x ≡ z ⊕ x → y ≡ z
  add_cancel_right x y z e =
      from_one laws.ring 𝟙 e (ring laws.ring (x ∷ y ∷ z ∷ []) (search forms depth 9) (search forms depth 9) refl)

  -- the coefficient in front of a known rest
  first_same : (a b c : K) (f g : List K) → f ≡ g → eval F (b ∷ f) a ≡ eval F (c ∷ g) a → ◌≡◌ {A = List K} (b ∷ f) (c ∷ g)
  first_same a b c f g rest e =
      ap₂ {C = List K} (λ x r. x ∷ r)
      (add_cancel_right (a ⊗ eval F g a) b c (ap (λ r. b ⊕ a ⊗ eval F r a) (sym rest) ∙ e)) rest

  suffixes_same : (a : K) (f g : List K) → suffixes F a f ≡ suffixes F a g → f ≡ g
  suffixes_same a [] [] e = refl
  suffixes_same a [] (d ∷ g) e = cc
  suffixes_same a (c ∷ f) [] e = cc
  suffixes_same a (c ∷ f) (d ∷ g) e = first_same a c d f g (suffixes_same a f g (cc)) (cc)

  quotient_same : (f g : List K) (s x : K) → s ≢ x → eval F f s ≡ eval F g s → eval F f x ≡ eval F g x
      → eval F (quotient F s f) x ≡ eval F (quotient F s g) x
  quotient_same f g s x h at-s at_x =
      mul_cancel (x ⊝ s) _ _ (sub≢zero x s (λ e. h (sym e)))
      (sym (factor laws.ring f x s) ∙ ap₂ ◌⊝◌ at_x at-s ∙ factor laws.ring g x s)

  -- n coefficients are determined by what the polynomial is at n different points
  pub unique : (points f g : List K) → Distinct points → length f ≤ length points → length f ≡ length g
      → AllByRecursion (λ s. eval F f s ≡ eval F g s) points → f ≡ g
  unique points [] [] d n e same = refl
  unique points [] (c ∷ g) d n e same = absurd (omega arith)
  unique points (c ∷ f) [] d n e same = absurd (omega arith)
  unique [] (b ∷ f) (c ∷ g) d n e same = absurd (omega arith)
  unique (s ∷ points) (b ∷ f) (c ∷ g) d n e same =
      let agree : AllByRecursion (λ x. eval F (suffixes F s f) x ≡ eval F (suffixes F s g) x) points =
      all_of _ points (λ x m. quotient_same (b ∷ f) (c ∷ g) s x (all-at (λ y. s ≢ y) points d.0 x m) same.0
      (all-at (λ y. eval F (b ∷ f) y ≡ eval F (c ∷ g) y) points same.1 x m)) in
      let f-length = length_suffixes laws.ring s f in
      let g-length = length_suffixes laws.ring s g in
      let rest = unique points (suffixes F s f) (suffixes F s g) d.1 (omega arith) (omega arith) agree in
      first_same s b c f g (suffixes_same s f g rest) same.0
