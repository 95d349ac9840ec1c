-- Sums over lists of ids, and Lagrange's formula as a sum over the members of a set. Assumes nothing.
use Rattle.std.proofs.Common.{◌≡◌, ℕ, ◌≤◌, true, false, cond, not, ◌||◌, eqb, ◌≢◌, List, [], ◌∷◌, ◌++◌, map, length, filter, sym, refl, ap, ◌∙◌, subst, ap₂, inl, inr, append_assoc, arith}
use Rattle.std.specs.List.{AllByRecursion}
use Rattle.std.proofs.lemmas.List.{length-map, map-append}
use Rattle.std.proofs.lemmas.Bool.{eq-eqb, ne_eqb}
use Rattle.std.proofs.lemmas.Bool.Decides.{eqb_tells}
use Rattle.fields.specs.Field.{Ops, RingLaws, FieldLaws, Points}
use Rattle.fields.proofs.Ring.{ring, forms}
use Rattle.circle.specs.Ids.{is_id, member, inserted, removed, members, within_largest, has_point}
use Rattle.circle.specs.Lists.{In, Distinct}
use Rattle.circle.specs.Polynomial.{eval, sum, constant, points}
use Rattle.circle.proofs.Lists.{all_of, all-at, all_map, mem_right}
use Rattle.circle.proofs.Tests.{pass_all}
use Rattle.circle.proofs.ids.Laws.{in_members, members_distinct, member_inserted}
use Rattle.circle.proofs.ids.On.{on_point, members_but}
use Rattle.circle.proofs.polynomial.Lagrange.{combine, lagrange}
use Rattle.circle.proofs.polynomial.Loops.{points_differ}

-- the sum of u over a list of ids
abbrev pub total : {K : Type 0} → Ops K → List ℕ → (ℕ → K) → K
total F is u = sum F (map u is)

-- ## Sums

module _ {K : Type 0} {F : Ops K} (laws : RingLaws F) where
  open F use {zero as 𝟘, add as ◌⊕◌, mul as ◌⊗◌}

  infixl 65 ◌⊕◌
  infixl 70 ◌⊗◌
  pub total_same : (is : List ℕ) (u v : ℕ → K) → ((i : ℕ) → In i is → u i ≡ v i) → total F is u ≡ total F is v
  total_same [] u v same = refl
  total_same (i ∷ is) u v same = ap₂ ◌⊕◌ (same i (inl refl)) (total_same is u v (λ k m. same k (inr m)))

  pub total-zero : (is : List ℕ) (u : ℕ → K) → ((i : ℕ) → In i is → u i ≡ 𝟘) → total F is u ≡ 𝟘
  total-zero [] u none = refl
  total-zero (i ∷ is) u none = ap₂ ◌⊕◌ (none i (inl refl)) (total-zero is u (λ k m. none k (inr m))) ∙ laws.add-zero 𝟘

  pub total-add : (is : List ℕ) (u v : ℕ → K) → total F is (λ i. u i ⊕ v i) ≡ total F is u ⊕ total F is v
  total-add [] u v = sym (laws.add-zero 𝟘)
  total-add (i ∷ is) u v =
      ap (λ x. u i ⊕ v i ⊕ x) (total-add is u v)
      ∙ ring laws (u i ∷ v i ∷ total F is u ∷ total F is v ∷ []) (search forms) (search forms) refl

  pub sum_push : (xs : List K) (y : K) → sum F (xs ++ (y ∷ [])) ≡ sum F xs ⊕ y
  sum_push [] y = laws.add_comm y 𝟘
  sum_push (x ∷ xs) y = ap (λ u. x ⊕ u) (sum_push xs y) ∙ sym (laws.add_assoc x (sum F xs) y)

  -- a sum with one term
  pub total_one : (is : List ℕ) (i : ℕ) (x : K) → Distinct is → In i is → total F is (λ h. cond (eqb h i) x 𝟘) ≡ x
  total_one [] i x d m = absurd m
  total_one (k ∷ is) i x d (inl e) =
      ap₂ (λ b y. cond b x 𝟘 ⊕ y) (eq-eqb k i (sym e))
      (total-zero is _ (λ h m. ap (λ b. cond b x 𝟘) (ne_eqb h i (λ q. all-at (λ y. k ≢ y) is d.0 h m (sym e ∙ sym q)))))
      ∙ laws.add-zero x
  total_one (k ∷ is) i x d (inr m) =
      ap₂ (λ b y. cond b x 𝟘 ⊕ y) (ne_eqb k i (all-at (λ y. k ≢ y) is d.0 i m)) (total_one is i x d.1 m)
      ∙ laws.add_comm 𝟘 x
      ∙ laws.add-zero x

  -- one id more in the set adds one term
  pub total_inserted : (is : List ℕ) (set i : ℕ) (u : ℕ → K) → Distinct is → In i is → is_id i ≡ true → member set i ≡ false
      → total F is (λ h. cond (member (inserted set i) h) (u h) 𝟘) ≡ total F is (λ h. cond (member set h) (u h) 𝟘) ⊕ u i
  total_inserted is set i u d m id new =
      total_same is _ (λ h. cond (member set h) (u h) 𝟘 ⊕ cond (eqb h i) (u i) 𝟘) (λ h _. ap (λ b. cond b (u h) 𝟘) (member_inserted set i h id) ∙ at h)
      ∙ total-add is (λ h. cond (member set h) (u h) 𝟘) (λ h. cond (eqb h i) (u i) 𝟘)
      ∙ ap (λ x. total F is (λ h. cond (member set h) (u h) 𝟘) ⊕ x) (total_one is i (u i) d m)
    where
      at : (h : ℕ) → cond (eqb h i || member set h) (u h) 𝟘 ≡ cond (member set h) (u h) 𝟘 ⊕ cond (eqb h i) (u i) 𝟘
      at h =
          elim (eqb_tells h i) [
            | inl e ↦
                let off : member set h ≡ false = ap (member set) e.1 ∙ new in
                ap₂ (λ a b. cond (a || b) (u h) 𝟘) e.0 off
                ∙ ap u e.1
                ∙ sym (ap₂ (λ a b. cond b (u h) 𝟘 ⊕ cond a (u i) 𝟘) e.0 off ∙ laws.add_comm 𝟘 (u i) ∙ laws.add-zero (u i))
            | inr e ↦
                ap (λ b. cond (b || member set h) (u h) 𝟘) e.0
                ∙ sym (ap (λ b. cond (member set h) (u h) 𝟘 ⊕ cond b (u i) 𝟘) e.0 ∙ laws.add-zero _)
          ]

-- ## Lagrange's formula

kept_others : (i : ℕ) (is : List ℕ) → AllByRecursion (λ k. i ≢ k) is → filter (λ k. not (eqb k i)) is ≡ is
kept_others i [] a = refl
kept_others i (k ∷ is) a =
    ap₂ (λ b ks. cond (not b) (k ∷ ks) ks) (ne_eqb k i (λ e. a.0 (sym e))) (kept_others i is a.1)

-- the ids but the one in the middle
kept_middle : (before : List ℕ) (i : ℕ) (is : List ℕ) → Distinct (before ++ (i ∷ is))
    → filter (λ k. not (eqb k i)) (before ++ (i ∷ is)) ≡ before ++ is
kept_middle [] i is d = ap (λ b. cond (not b) (i ∷ filter (λ k. not (eqb k i)) is) (filter (λ k. not (eqb k i)) is)) (eq-eqb i i refl) ∙ kept_others i is d.0
kept_middle (k ∷ before) i is d =
    ap₂ (λ b ks. cond (not b) (k ∷ ks) ks)
    (ne_eqb k i (all-at (λ y. k ≢ y) (before ++ (i ∷ is)) d.0 i (mem_right before (i ∷ is) i (inl refl))))
    (kept_middle before i is d.1)

module _ {K : Type 0} (at : ℕ → K) where
  abbrev shares_of : (ℕ → K) → List ℕ → List (K × K)
  shares_of y is = map (λ i. (at i, y i)) is

  points_of : (y : ℕ → K) (is : List ℕ) → points (shares_of y is) ≡ map at is
  points_of y [] = refl
  points_of y (i ∷ is) = ap {B = List K} (λ ks. at i ∷ ks) (points_of y is)

module _ {K : Type 0} (F : Ops K) (at : ℕ → K) where
  open F use {add as ◌⊕◌, mul as ◌⊗◌}

  infixl 65 ◌⊕◌
  infixl 70 ◌⊗◌
  -- the constant of i among the ids, times its value
  abbrev weighed : List ℕ → (ℕ → K) → K → ℕ → K
  weighed all y z i = constant F (map at (filter (λ k. not (eqb k i)) all)) (at i) z ⊗ y i

  combine_total : (before is : List ℕ) (y : ℕ → K) (z : K) → Distinct (before ++ is)
      → combine F (map at before) (shares_of at y is) z ≡ total F is (weighed (before ++ is) y z)
  combine_total before [] y z d = refl
  combine_total before (i ∷ is) y z d =
      let regroup : (before ++ (i ∷ [])) ++ is ≡ before ++ (i ∷ is) = append_assoc before (i ∷ []) is in
      let others : map at before ++ points (shares_of at y is) ≡ map at (filter (λ k. not (eqb k i)) (before ++ (i ∷ is))) =
      ap (λ ks. map at before ++ ks) (points_of at y is) ∙ sym (map-append at before is) ∙ ap (map at) (sym (kept_middle before i is d)) in
      ap₂ ◌⊕◌
      (ap (λ ks. constant F ks (at i) z ⊗ y i) others)
      (ap (λ ks. combine F ks (shares_of at y is) z) (sym (map-append at before (i ∷ [])))
      ∙ combine_total (before ++ (i ∷ [])) is y z (subst Distinct (sym regroup) d)
      ∙ ap (λ all. total F is (weighed all y z)) regroup)

pub members_apart : {K : Type 0} {F : Ops K} (m : Points F) (set : ℕ) → within_largest set m.largest ≡ true → Distinct (map m.at (members set))
members_apart m set known =
    points_differ m (members set)
    (pass_all (λ h. In h (members set)) (has_point m.largest) (λ h i. on_point set m.largest h known (in_members set h i))
    (members set) (all_of _ (members set) (λ h i. i)))
    (members_distinct set)

module _ {K : Type 0} {F : Ops K} (laws : FieldLaws F) (m : Points F) where
  -- what a polynomial of at most as many coefficients as the set has members is anywhere, from what it is at their points
  pub lagrange_members : (set : ℕ) (f : List K) (z : K) → within_largest set m.largest ≡ true → length f ≤ length (members set)
      → total F (members set) (λ i. F.mul (constant F (map m.at (members (removed set i))) (m.at i) z) (eval F f (m.at i))) ≡ eval F f z
  lagrange_members set f z known few =
      let is = members set in
      let y : ℕ → K = λ i. eval F f (m.at i) in
      sym
      (lagrange laws (shares_of m.at y is) f z (subst Distinct (sym (points_of m.at y is)) (members_apart m set known))
      (omega (arith, length-map {B = K × K} is (λ i. (m.at i, y i))))
      (all_map (λ i. (m.at i, y i)) _ is (all_of _ is (λ i _. refl)))
      ∙ combine_total F m.at [] is y z (members_distinct set)
      ∙ total_same laws.ring is _ _ (λ i _. ap (λ ks. F.mul (constant F (map m.at ks) (m.at i) z) (y i)) (members_but set i)))
