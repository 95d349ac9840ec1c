-- Fewer than t values say nothing of the value at zero. Assumes nothing.
use Rattle.std.proofs.Common.{◌≡◌, ℕ, ◌<◌, ◌≢◌, List, [], ◌∷◌, map, length, sym, refl, ap, ◌∙◌, subst, arith}
use Rattle.fields.specs.Field.{Ops, FieldLaws}
use Rattle.std.specs.List.{AllByRecursion}
use Rattle.std.proofs.lemmas.List.{length-map}
use Rattle.circle.specs.Lists.{Distinct}
use Rattle.circle.specs.Polynomial.{eval, points}
use Rattle.circle.proofs.Lists.{all_of, all-at, all_unmap}
use Rattle.circle.proofs.polynomial.Values.{padded}
use Rattle.circle.proofs.polynomial.Lagrange.{interpolate}

module _ {K : Type 0} {F : Ops K} (laws : FieldLaws F) where
  open F use {zero as 𝟘, one as 𝟙, add as ◌⊕◌, mul as ◌⊗◌, neg as ⊖◌}

  infixl 65 ◌⊕◌
  infixl 70 ◌⊗◌
  infix 80 ⊖◌
  abbrev zero_at : K → K × K
  zero_at a = (a, 𝟘)

  points_zero_at : (known : List K) → points (map zero_at known) ≡ known
  points_zero_at [] = refl
  points_zero_at (a ∷ known) = ap {B = List K} (λ r. a ∷ r) (points_zero_at known)

  -- a polynomial that is d at zero, and zero at fewer than t points
  pub hiding : (known : List K) (t : ℕ) (d : K) → Distinct known → AllByRecursion (λ a. a ≢ 𝟘) known → length known < t
      → (f : List K) × (length f ≡ t) × (eval F f 𝟘 ≡ d) × AllByRecursion (λ a. eval F f a ≡ 𝟘) known
  hiding known t d apart nonzero n =
      let shares : List (K × K) = (𝟘, d) ∷ map zero_at known in
      let from_zero : AllByRecursion (λ a. 𝟘 ≢ a) known = all_of _ known (λ a m e. all-at (λ b. b ≢ 𝟘) known nonzero a m (sym e)) in
      let different : Distinct (points shares) = subst (λ ps. Distinct (𝟘 ∷ ps)) (sym (points_zero_at known)) (from_zero, apart) in
      let f = interpolate laws shares different in
      let g = padded laws.ring f.0 t (omega (arith, f.1, length-map known zero_at)) in
      let at-known : AllByRecursion (λ a. eval F f.0 a ≡ 𝟘) known = all_unmap zero_at (λ p. eval F f.0 p.0 ≡ p.1) known f.2.1 in
      (g.0, g.1, g.2 𝟘 ∙ f.2.0, all_of _ known (λ a m. g.2 a ∙ all-at _ known at-known a m))
