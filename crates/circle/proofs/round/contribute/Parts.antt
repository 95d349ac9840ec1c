-- What each id is given in a round of each kind. Assumes nothing.
use Rattle.std.proofs.Common.{◌≡◌, ℕ, Bool, true, false, cond, ◌⊎◌, List, [], ◌∷◌, sym, refl, subst, inl, inr}
use Rattle.fields.specs.Field.{Ops, RingLaws}
use Rattle.fields.proofs.Ring.{ring, forms}
use Rattle.circle.specs.Contribute.{part, portion, portions}
use Rattle.circle.specs.Deal.{share_of}
use Rattle.circle.specs.Ids.{member, members}
use Rattle.circle.specs.Kind.{roll_after}
use Rattle.circle.specs.Lagrange.{constant_in}
use Rattle.circle.specs.Polynomial.{polynomial, value}
use Rattle.circle.specs.Table.{only}
use Rattle.circle.specs.declared.kind.Kind.{Kind}
use Rattle.circle.specs.declared.kind.Kind.TheVariants.{Refresh, Dismissal, Change, Admission}

module _ {K : Type 0} {F : Ops K} (laws : RingLaws F) (at : ℕ → K) (k : Kind) (roll i : ℕ) (share : K) (rest : List K) (h : ℕ) where
  -- refresh and dismissal: the value of the numbers
  pub renewed_part : (k ≡ Refresh) ⊎ ((leaver : ℕ) × (k ≡ Dismissal leaver))
      → only F (roll_after k roll) h (value F rest (at h)) ≡ part F at k roll i share rest h
  renewed_part (inl is) = subst (λ k. only F (roll_after k roll) h (value F rest (at h)) ≡ part F at k roll i share rest h) (sym is) refl
  renewed_part (inr is) = subst (λ k. only F (roll_after k roll) h (value F rest (at h)) ≡ part F at k roll i share rest h) (sym is.1) refl

  scaled_only : (c x : K) (b : Bool) → F.mul c (cond b x F.zero) ≡ cond b (F.mul c x) F.zero
  scaled_only c x true = refl
  scaled_only c x false = ring laws (c ∷ []) (search forms) (search forms) refl

  -- a change: the constant times a share of the polynomial with the contributor's share first
  pub changed_part : (t helpers : ℕ) → k ≡ Change t helpers
      → F.mul (constant_in F at helpers i F.zero) (share_of F at (roll_after k roll) h (polynomial F share rest)) ≡ part F at k roll i share rest h
  changed_part t helpers is =
      subst (λ k. F.mul (constant_in F at helpers i F.zero) (share_of F at (roll_after k roll) h (polynomial F share rest)) ≡ part F at k roll i share rest h)
      (sym is) (scaled_only _ _ (member roll h))

  -- an admission: a portion of the constant times the contributor's share
  pub admitted_part : (newcomer helpers : ℕ) → k ≡ Admission newcomer helpers
      → portion F at (members helpers) (portions F at (F.mul (constant_in F at helpers i (at newcomer)) share) rest) h ≡ part F at k roll i share rest h
  admitted_part newcomer helpers is =
      subst (λ k. portion F at (members helpers) (portions F at (F.mul (constant_in F at helpers i (at newcomer)) share) rest) h ≡ part F at k roll i share rest h)
      (sym is) refl
