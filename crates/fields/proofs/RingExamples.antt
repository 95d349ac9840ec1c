-- How to call `ring`. Assumes nothing.
use Rattle.std.proofs.Common.{◌≡◌, ℕ, ◌+◌, ◌*◌, ◌%◌, [], ◌∷◌, refl, ap, ◌∙◌}
use Rattle.fields.specs.Field.{Ops, RingLaws, sub}
use Rattle.fields.proofs.Ring.{ring, ring_expr, forms, from_one, from_two, var, ◌:+◌, ◌:*◌, :-◌}

module _ {K : Type 0} {F : Ops K} (laws : RingLaws F) where
  open F use {zero as 𝟘, one as 𝟙, add as ◌⊕◌, mul as ◌⊗◌, neg as ⊖◌}

  infixl 65 ◌⊕◌
  infixl 70 ◌⊗◌
  infix 80 ⊖◌
  -- The list has the atoms, in any order: variables, or terms that `ring` is not to look into.
  -- Each `search forms` writes one side over the atoms, and `refl` compares the normal forms.
  -- `depth 9` allows for nine operations inside one another; without it the limit is 5.
  square : (x y : K) → (x ⊕ y) ⊗ (x ⊕ ⊖ y) ≡ x ⊗ x ⊕ ⊖ (y ⊗ y)
  square x y = ring laws (x ∷ y ∷ []) (search forms depth 9) (search forms depth 9) refl

  -- an atom that is a call
  opaque_atom : (f : K → K) (x y : K) → sub F (f x ⊗ y) y ≡ (f x ⊕ ⊖ 𝟙) ⊗ y
  opaque_atom f x y = ring laws (f x ∷ y ∷ []) (search forms depth 9) (search forms depth 9) refl

  -- from an equation: here `l - r` is 1 times the difference of its sides. `from_two` takes two equations
  with_equation : (x a q r f : K) → f ≡ (x ⊕ ⊖ a) ⊗ q ⊕ r → f ⊕ a ⊗ q ≡ x ⊗ q ⊕ r
  with_equation x a q r f h =
      from_one laws 𝟙 h (ring laws (x ∷ a ∷ q ∷ r ∷ f ∷ []) (search forms depth 9) (search forms depth 9) refl)

  -- the same as a chain: the term in the middle is found by antt
  with_chain : (x a q r f : K) → f ≡ (x ⊕ ⊖ a) ⊗ q ⊕ r → f ⊕ a ⊗ q ≡ x ⊗ q ⊕ r
  with_chain x a q r f h =
      ap (λ u. u ⊕ a ⊗ q) h ∙ ring laws (x ∷ a ∷ q ∷ r ∷ []) (search forms depth 9) (search forms depth 9) refl

  -- with an inverse: it is an atom, and what is known of it is an equation
  with_inverse : (x y z x⁻ : K) → x ⊗ x⁻ ≡ 𝟙 → x ⊗ y ≡ z → y ≡ x⁻ ⊗ z
  with_inverse x y z x⁻ i h =
      from_two laws (⊖ y) x⁻ i h (ring laws (x ∷ y ∷ z ∷ x⁻ ∷ []) (search forms depth 9) (search forms depth 9) refl)

  -- six atoms, degree three
  larger : (a b c d x y : K)
      → (a ⊕ b ⊕ c ⊕ d) ⊗ (a ⊕ b ⊕ ⊖ c ⊕ ⊖ d) ⊗ (x ⊕ ⊖ y) ≡ (x ⊕ ⊖ y) ⊗ ((a ⊕ b) ⊗ (a ⊕ b) ⊕ ⊖ ((c ⊕ d) ⊗ (c ⊕ d)))
  larger a b c d x y = ring laws (a ∷ b ∷ c ∷ d ∷ x ∷ y ∷ []) (search forms depth 9) (search forms depth 9) refl

  -- the same without `search`: the two sides written out
  written : (x y : K) → (x ⊕ y) ⊗ (x ⊕ ⊖ y) ≡ x ⊗ x ⊕ ⊖ (y ⊗ y)
  written x y =
      let X = var 0 in let Y = var 1 in
      ring_expr laws (x ∷ y ∷ []) ((X :+ Y) :* (X :+ :- Y)) (X :* X :+ :- (Y :* Y)) refl

-- operations that stand alone, and not in a record
module _ {K : Type 0} (zero one : K) (add mul : K → K → K) (neg inv : K → K) where
  abbrev ops : Ops K
  ops = record { zero = zero; one = one; add = add; mul = mul; neg = neg; inv = inv }

  alone : RingLaws ops → (x y z : K) → add (mul x y) (add z (neg (mul x y))) ≡ z
  alone laws x y z = ring laws (x ∷ y ∷ z ∷ []) (search forms) (search forms) refl

-- operations that are known, here on residues
module _ (n : ℕ) (minus invert : ℕ → ℕ) where
  abbrev residues : Ops ℕ
  residues = record { zero = 0; one = 1; add = λ a b. (a + b) % n; mul = λ a b. (a * b) % n; neg = minus; inv = invert }

  known : RingLaws residues → (x y z : ℕ) → (((x * y) % n + z) % n * x) % n ≡ ((x * z) % n + (x * ((x * y) % n)) % n) % n
  known laws x y z = ring laws (x ∷ y ∷ z ∷ []) (search forms) (search forms) refl
