-- Who is in a set, with what its test alone does not say: that it is an id. Assumes nothing.
use Rattle.std.proofs.Common.{◌≡◌, ℕ, ◌^◌, ◌<◌, ◌≤◌, Bool, true, false, cond, not, ◌&&◌, ◌||◌, eqb, leb, ◌⊎◌, List, [], ◌∷◌, filter, sym, refl, ap, ◌∙◌, subst, inl, inr, arith}
use Rattle.std.proofs.lemmas.Nat.{pow_below}
use Rattle.std.proofs.lemmas.Bool.{cases_lt, and_from, and_parts, le-leb, leb-true, eqb-true}
use Rattle.std.proofs.lemmas.Bool.Decides.{eqb_tells}
use Rattle.circle.specs.Ids.{is_id, ids, member, inserted, removed, members, within_largest, subset, has_point}
use Rattle.circle.specs.Lists.{In}
use Rattle.circle.proofs.ids.Bits.{shr_none}
use Rattle.circle.proofs.ids.Laws.{id_bounds, bounds_id, member_inserted, member_removed, members_in, subset_decides, within_known}
use Rattle.circle.proofs.ids.Lists.{but, kept_same}

-- h is an id, and in the set
abbrev pub On : ℕ → ℕ → Type 0
On set h = (is_id h ≡ true) × (member set h ≡ true)

pub on_in : (set h : ℕ) → On set h → In h (members set)
on_in set h on = members_in set h on.0 on.1

pub on_part : (a b h : ℕ) → subset a b ≡ true → On a h → On b h
on_part a b h part on = (on.0, (subset_decides a b).0 part h on.0 on.1)

pub on_removed : (set x h : ℕ) → On (removed set x) h → On set h
on_removed set x h on = (on.0, (and_parts (not (eqb h x)) (member set h) (sym (member_removed set x h) ∙ on.1)).1)

-- who is in a set with one id more is that id, or was in it before
pub on_inserted : (set i h : ℕ) → is_id i ≡ true → On (inserted set i) h
    → ((eqb h i ≡ true) × (h ≡ i)) ⊎ ((eqb h i ≡ false) × On set h)
on_inserted set i h id on =
    elim (eqb_tells h i) [
      | inl e ↦ inl e
      | inr e ↦ inr (e.0, (on.0, ap (λ b. b || member set h) (sym e.0) ∙ sym (member_inserted set i h id) ∙ on.1))
    ]

-- ## Ids that have a point

pub point_id : (largest h : ℕ) → largest ≤ 32 → has_point largest h ≡ true → is_id h ≡ true
point_id largest h few known =
    let parts = and_parts (leb 1 h) (leb h largest) known in
    bounds_id h (leb-true 1 h parts.0) (omega (arith, leb-true h largest parts.1))

pub on_point : (set largest h : ℕ) → within_largest set largest ≡ true → On set h → has_point largest h ≡ true
on_point set largest h within on =
    and_from (leb 1 h) (leb h largest) (le-leb 1 h (id_bounds h on.0).0) (le-leb h largest (within_known set largest h within on.1))

-- what has only ids up to the largest is a set
pub within_fits : (set largest : ℕ) → largest ≤ 32 → within_largest set largest ≡ true → set < 2 ^ 32
within_fits set largest few within =
    let below = shr_none set largest (eqb-true _ 0 within) in
    elim (cases_lt largest 32) [
      | inl less ↦ omega (arith, pow_below largest 32 less)
      | inr past ↦ let e : largest ≡ 32 = omega arith in subst (λ n. set < 2 ^ n) e below
    ]

-- ## The other members

kept_but : (i : ℕ) (p : ℕ → Bool) (xs : List ℕ) → filter (λ k. not (eqb k i)) (filter p xs) ≡ filter (but i p) xs
kept_but i p [] = refl
kept_but i p (x ∷ xs) = go (p x) (not (eqb x i)) refl (kept_but i p xs)
  where
    go : (a b : Bool) → not (eqb x i) ≡ b → filter (λ k. not (eqb k i)) (filter p xs) ≡ filter (but i p) xs
        → filter (λ k. not (eqb k i)) (cond a (x ∷ filter p xs) (filter p xs)) ≡ cond (b && a) (x ∷ filter (but i p) xs) (filter (but i p) xs)
    go true true q r = rw q (ap {B = List ℕ} (λ t. x ∷ t) r)
    go true false q r = rw q r
    go false true q r = r
    go false false q r = r

pub members_but : (set i : ℕ) → filter (λ k. not (eqb k i)) (members set) ≡ members (removed set i)
unfolding members
members_but set i = kept_but i (member set) ids ∙ kept_same (but i (member set)) (member (removed set i)) ids (λ k _. sym (member_removed set i k))
