-- Lagrange's constants, with one inverse for each; and the sum that they weigh. Assumes nothing.
use Rattle.std.proofs.Common.{◌≡◌, ℕ, ◌+◌, ◌≢◌, List, [], ◌∷◌, ◌++◌, length, get_or, take, drop, sym, refl, ap, ◌∙◌, ap₂, append_assoc}
use Rattle.std.specs.List.{AllByRecursion}
use Rattle.std.proofs.lemmas.List.{take_at, drop_at, get_or_at, length_push}
use Rattle.fields.specs.Field.{Ops, FieldLaws, sub}
use Rattle.fields.proofs.Ring.{ring, forms}
use Rattle.circle.specs.Polynomial.{points, values, constant, constant_of, weighted, interpolated}
use Rattle.circle.specs.LagrangeParts.{gaps}
use Rattle.circle.proofs.polynomial.Lagrange.{combine}
use Rattle.circle.proofs.polynomial.Unique.{sub≢zero, mul_cancel}

module _ {K : Type 0} {F : Ops K} (laws : FieldLaws F) where
  open F use {zero as 𝟘, one as 𝟙, add as ◌⊕◌, mul as ◌⊗◌, neg as ⊖◌, inv}

  infixl 65 ◌⊕◌
  infixl 70 ◌⊗◌
  infix 80 ⊖◌
  infixl 65 ◌⊝◌
  abbrev ◌⊝◌ : K → K → K
  x ⊝ y = sub F x y

  -- ## Inverses

  pub mul≢zero : (x y : K) → x ≢ 𝟘 → y ≢ 𝟘 → x ⊗ y ≢ 𝟘
  mul≢zero x y hx hy e =
      hy (mul_cancel laws x y 𝟘 hx (e ∙ ring laws.ring (x ∷ []) (search forms) (search forms) refl))

  -- what times x is one is the inverse of x
  pub inv_unique : (x y : K) → x ≢ 𝟘 → x ⊗ y ≡ 𝟙 → inv x ≡ y
  inv_unique x y h e = mul_cancel laws x (inv x) y h (laws.mul-inv x h ∙ sym e)

  pub inv-mul : (x y : K) → x ≢ 𝟘 → y ≢ 𝟘 → inv (x ⊗ y) ≡ inv x ⊗ inv y
  inv-mul x y hx hy =
      inv_unique (x ⊗ y) (inv x ⊗ inv y) (mul≢zero x y hx hy)
      (ring laws.ring (x ∷ y ∷ inv x ∷ inv y ∷ []) (search forms) (search forms) refl
      ∙ ap₂ (λ u v. u ⊗ v) (laws.mul-inv x hx) (laws.mul-inv y hy)
      ∙ laws.ring.mul-one 𝟙)

  pub inv-one : inv 𝟙 ≡ 𝟙
  inv-one = inv_unique 𝟙 𝟙 (λ e. laws.zero≢one (sym e)) (laws.ring.mul-one 𝟙)

  -- ## One inverse for each constant

  pub gaps≢zero : (ks : List K) (s : K) → AllByRecursion (λ k. s ≢ k) ks → gaps F ks s ≢ 𝟘
  gaps≢zero [] s h = λ e. laws.zero≢one (sym e)
  gaps≢zero (k ∷ ks) s h = mul≢zero (s ⊝ k) (gaps F ks s) (sub≢zero laws s k h.0) (gaps≢zero ks s h.1)

  pub constant_fraction : (ks : List K) (s z : K) → AllByRecursion (λ k. s ≢ k) ks → constant F ks s z ≡ gaps F ks z ⊗ inv (gaps F ks s)
  constant_fraction [] s z h = sym (ap (λ u. 𝟙 ⊗ u) inv-one ∙ laws.ring.mul-one 𝟙)
  constant_fraction (k ∷ ks) s z h =
      let below = gaps F ks s in
      ap (λ u. (z ⊝ k) ⊗ inv (s ⊝ k) ⊗ u) (constant_fraction ks s z h.1)
      ∙ ring laws.ring ((z ⊝ k) ∷ inv (s ⊝ k) ∷ gaps F ks z ∷ inv below ∷ []) (search forms) (search forms) refl
      ∙ ap (λ u. (z ⊝ k) ⊗ gaps F ks z ⊗ u)
      (sym (inv-mul (s ⊝ k) below (sub≢zero laws s k h.0) (gaps≢zero ks s h.1)))

-- ## The sum that the constants weigh

module _ {K : Type 0} (F : Ops K) where
  module _ (z : K) where
    -- the constant of the point s, with the points `before` before it and `after` after it
    constant_at : (before after : List K) (s : K) (i : ℕ) → length before ≡ i
        → constant_of F (before ++ s ∷ after) z i ≡ constant F (before ++ after) s z
    constant_at before after s i long =
        let all = before ++ s ∷ after in
        let left : take i all ≡ before = take_at before (s ∷ after) i long in
        let right : drop (i + 1) all ≡ after =
        ap (drop (i + 1)) (sym (append_assoc before (s ∷ []) after))
        ∙ drop_at (before ++ s ∷ []) after (i + 1) (length_push before s ∙ ap (λ n. n + 1) long) in
        let here : get_or all i F.zero ≡ s = get_or_at before s after F.zero i long in
        ap₂ (λ ks u. constant F ks u z) (ap₂ (λ a b. a ++ b) left right) here

    sum_from : (before : List K) (shares : List (K × K)) (i : ℕ) → length before ≡ i
        → weighted F (constant_of F (before ++ points shares) z) i (values shares) ≡ combine F before shares z
    sum_from before [] i long = refl
    sum_from before (p ∷ shares) i long =
        let w = constant_of F (before ++ points (p ∷ shares)) z in
        let first : w i ≡ constant F (before ++ points shares) p.0 z = constant_at before (points shares) p.0 i long in
        let moved : (before ++ (p.0 ∷ [])) ++ points shares ≡ before ++ points (p ∷ shares) = append_assoc before (p.0 ∷ []) (points shares) in
        let rest : weighted F w (i + 1) (values shares) ≡ combine F (before ++ (p.0 ∷ [])) shares z =
        ap (λ ks. weighted F (constant_of F ks z) (i + 1) (values shares)) (sym moved)
        ∙ sum_from (before ++ (p.0 ∷ [])) shares (i + 1) (length_push before p.0 ∙ ap (λ n. n + 1) long) in
        ap₂ (λ a b. F.add (F.mul a p.1) b) first rest

    pub interpolated_combine : (shares : List (K × K)) → interpolated F shares z ≡ combine F [] shares z
    interpolated_combine shares = sum_from [] shares 0 refl
