-- The arithmetic of polynomials: what sums and multiples come to at a point, and division by a linear factor. Assumes nothing.
use Rattle.std.proofs.Common.{◌≡◌, ℕ, zero, suc, ◌-◌, ◌≤◌, max, List, [], ◌∷◌, ◌++◌, length, replicate, refl, ap, ◌∙◌, ap₂, arith, length-append}
use lib.ListN.{length-replicate}
use Rattle.fields.specs.Field.{Ops, RingLaws, sub}
use Rattle.circle.specs.Polynomial.{eval}
use Rattle.fields.proofs.Ring.{ring, forms, from_one}

-- ## Sums, multiples and quotients of polynomials

module _ {K : Type 0} (F : Ops K) where
  abbrev pub padd : List K → List K → List K
  padd [] g = g
  padd (c ∷ f) [] = c ∷ f
  padd (c ∷ f) (d ∷ g) = F.add c d ∷ padd f g

  abbrev pub scale : K → List K → List K
  scale k [] = []
  scale k (c ∷ f) = F.mul k c ∷ scale k f

  -- (b + a x) f
  abbrev pub linear : K → K → List K → List K
  linear b a f = padd (scale b f) (F.zero ∷ scale a f)

  -- what f and each of its suffixes come to at a
  abbrev pub suffixes : K → List K → List K
  suffixes a [] = []
  suffixes a (c ∷ f) = eval F (c ∷ f) a ∷ suffixes a f

  -- f without its rest, divided by x - a
  abbrev pub quotient : K → List K → List K
  quotient a [] = []
  quotient a (c ∷ f) = suffixes a f

module _ {K : Type 0} {F : Ops K} (laws : RingLaws F) where
  open F use {zero as 𝟘, one as 𝟙, add as ◌⊕◌, mul as ◌⊗◌, neg as ⊖◌}

  infixl 65 ◌⊕◌
  infixl 70 ◌⊗◌
  infix 80 ⊖◌
  infixl 65 ◌⊝◌
  abbrev ◌⊝◌ : K → K → K
  x ⊝ y = sub F x y

  -- ## Sums and multiples

  pub eval_padd : (f g : List K) (x : K) → eval F (padd F f g) x ≡ eval F f x ⊕ eval F g x
  eval_padd [] g x = ring laws (eval F g x ∷ []) (search forms depth 9) (search forms depth 9) refl
  eval_padd (c ∷ f) [] x = ring laws (c ∷ x ∷ eval F f x ∷ []) (search forms depth 9) (search forms depth 9) refl
  eval_padd (c ∷ f) (d ∷ g) x =
      ap (λ u. (c ⊕ d) ⊕ x ⊗ u) (eval_padd f g x)
      ∙ ring laws (c ∷ d ∷ x ∷ eval F f x ∷ eval F g x ∷ []) (search forms depth 9) (search forms depth 9) refl

  pub eval_scale : (k : K) (f : List K) (x : K) → eval F (scale F k f) x ≡ k ⊗ eval F f x
  eval_scale k [] x = ring laws (k ∷ []) (search forms depth 9) (search forms depth 9) refl
  eval_scale k (c ∷ f) x =
      ap (λ u. k ⊗ c ⊕ x ⊗ u) (eval_scale k f x)
      ∙ ring laws (k ∷ c ∷ x ∷ eval F f x ∷ []) (search forms depth 9) (search forms depth 9) refl

  pub eval_linear : (b a : K) (f : List K) (x : K) → eval F (linear F b a f) x ≡ (b ⊕ a ⊗ x) ⊗ eval F f x
  eval_linear b a f x =
      eval_padd (scale F b f) (𝟘 ∷ scale F a f) x
      ∙ ap₂ (λ u v. u ⊕ (𝟘 ⊕ x ⊗ v)) (eval_scale b f x) (eval_scale a f x)
      ∙ ring laws (b ∷ a ∷ x ∷ eval F f x ∷ []) (search forms depth 9) (search forms depth 9) refl

  pub eval_zeros : (n : ℕ) (x : K) → eval F (replicate n 𝟘) x ≡ 𝟘
  eval_zeros zero x = refl
  eval_zeros (suc n) x = ap (λ u. 𝟘 ⊕ x ⊗ u) (eval_zeros n x) ∙ ring laws (x ∷ []) (search forms depth 9) (search forms depth 9) refl

  -- zeros behind the last coefficient change nothing
  pub eval_pad : (f : List K) (n : ℕ) (x : K) → eval F (f ++ replicate n 𝟘) x ≡ eval F f x
  eval_pad [] n x = eval_zeros n x
  eval_pad (c ∷ f) n x = ap (λ u. c ⊕ x ⊗ u) (eval_pad f n x)

  -- f with zeros behind it up to n coefficients
  pub padded : (f : List K) (n : ℕ) → length f ≤ n → (g : List K) × (length g ≡ n) × ((x : K) → eval F g x ≡ eval F f x)
  padded f n h =
      let m = n - length f in
      (f ++ replicate m 𝟘, simp (length-append, length-replicate) (omega arith), eval_pad f m)

  pub length_padd : (f g : List K) → length (padd F f g) ≡ max (length f) (length g)
  length_padd [] g = omega arith
  length_padd (c ∷ f) [] = omega arith
  length_padd (c ∷ f) (d ∷ g) = omega (arith, length_padd f g)

  pub length_scale : (k : K) (f : List K) → length (scale F k f) ≡ length f
  length_scale k [] = refl
  length_scale k (c ∷ f) = ap suc (length_scale k f)

  pub length_linear : (b a : K) (f : List K) → length (linear F b a f) ≡ suc (length f)
  length_linear b a f =
      omega (arith, length_padd (scale F b f) (𝟘 ∷ scale F a f), length_scale b f, length_scale a f)

  -- ## Division by x - a

  pub length_suffixes : (a : K) (f : List K) → length (suffixes F a f) ≡ length f
  length_suffixes a [] = refl
  length_suffixes a (c ∷ f) = ap suc (length_suffixes a f)

  pub length_quotient : (a : K) (f : List K) → length (quotient F a f) ≡ length f - 1
  length_quotient a [] = refl
  length_quotient a (c ∷ f) = omega (arith, length_suffixes a f)

  factor_step : (c x a u v q : K) → u ⊝ v ≡ (x ⊝ a) ⊗ q → (c ⊕ x ⊗ u) ⊝ (c ⊕ a ⊗ v) ≡ (x ⊝ a) ⊗ (v ⊕ x ⊗ q)
  factor_step c x a u v q h =
      from_one laws x h (ring laws (c ∷ x ∷ a ∷ u ∷ v ∷ q ∷ []) (search forms depth 9) (search forms depth 9) refl)

  suffixes_factor : (c : K) (f : List K) (x a : K) → eval F (c ∷ f) x ⊝ eval F (c ∷ f) a ≡ (x ⊝ a) ⊗ eval F (suffixes F a f) x
  suffixes_factor c [] x a = ring laws (c ∷ x ∷ a ∷ []) (search forms depth 9) (search forms depth 9) refl
  suffixes_factor c (d ∷ f) x a =
      factor_step c x a (eval F (d ∷ f) x) (eval F (d ∷ f) a) (eval F (suffixes F a f) x) (suffixes_factor d f x a)

  -- the factor theorem
  pub factor : (f : List K) (x a : K) → eval F f x ⊝ eval F f a ≡ (x ⊝ a) ⊗ eval F (quotient F a f) x
  factor [] x a = ring laws (x ∷ a ∷ []) (search forms depth 9) (search forms depth 9) refl
  factor (c ∷ f) x a = suffixes_factor c f x a
