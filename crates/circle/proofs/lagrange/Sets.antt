-- The points of the ids of a set. Assumes nothing.
use Rattle.std.proofs.Common.{◌≡◌, ℕ, ◌^◌, ◌<◌, ◌≤◌, true, not, eqb, leb, ◌≢◌, map, sym, refl, ap, ◌∙◌, arith}
use Rattle.std.specs.List.{list_all, AllByRecursion}
use Rattle.std.proofs.lemmas.Bool.{and_parts, and_from, or_left, le-leb, leb-true, eq-eqb, not-true, ne_eqb, both_ways}
use Rattle.fields.specs.Field.{Ops, FieldLaws, Points}
use Rattle.circle.specs.Ids.{is_id, has_point, member, members, inserted, removed, within_largest, subset}
use Rattle.circle.specs.Lists.{In}
use Rattle.circle.specs.LagrangeParts.{gaps}
use Rattle.circle.proofs.Lists.{all_of}
use Rattle.circle.proofs.Tests.{each_also, each_in, pass_all}
use Rattle.circle.proofs.ids.Laws.{bounds_id, member_id, on_member, member_inserted, member_removed, in_members, members_in, within_known}
use Rattle.circle.proofs.polynomial.Loops.{constant_beside}
use Rattle.circle.specs.declared.kind.Kind.{Kind}
use Rattle.circle.specs.declared.kind.Kind.TheVariants.{Refresh, Dismissal, Change, Admission}
use Rattle.circle.specs.Kind.{ids_known, newcomer_is_id}
use Rattle.circle.specs.Lagrange.{constant_in}

-- a member has a point, where no id is above the largest
pub member_point : (set largest h : ℕ) → within_largest set largest ≡ true → member set h ≡ true → has_point largest h ≡ true
member_point set largest h known m =
    and_from _ _ (le-leb 1 h (on_member set h m).0) (le-leb h largest (within_known set largest h known m))

-- so each id of a part of the set has one
pub part_points : (part set largest : ℕ) → subset part set ≡ true → within_largest set largest ≡ true
    → list_all (has_point largest) (members part) ≡ true
part_points part set largest among known = each_also (member set) (has_point largest) (λ h. member_point set largest h known) (members part) among

-- a newcomer that is an id has one, where all on the roll with it do
pub newcomer_point : (newcomer roll largest : ℕ) → is_id newcomer ≡ true → within_largest (inserted roll newcomer) largest ≡ true → has_point largest newcomer ≡ true
newcomer_point newcomer roll largest id known =
    member_point (inserted roll newcomer) largest newcomer known
    (member_inserted roll newcomer newcomer id ∙ or_left _ (member roll newcomer) (eq-eqb newcomer newcomer refl))

-- a newcomer that has a point is an id
pub known_newcomer : (k : Kind) (largest : ℕ) → largest ≤ 32 → ids_known k largest ≡ true → newcomer_is_id k ≡ true
known_newcomer Refresh largest few known = refl
known_newcomer (Dismissal leaver) largest few known = refl
known_newcomer (Change threshold helpers) largest few known = refl
known_newcomer (Admission newcomer helpers) largest few known =
    let point = (and_parts (has_point largest newcomer) (within_largest helpers largest) known).0 in
    let two = and_parts (leb 1 newcomer) (leb newcomer largest) point in
    bounds_id newcomer (leb-true 1 newcomer two.0) (omega (arith, leb-true newcomer largest two.1))

-- ## The ids of a set, beside one of them

module _ (set h : ℕ) where
  pub others_in : (k : ℕ) → In k (members (removed set h)) → (h ≢ k) × In k (members set)
  others_in k m =
      let r = in_members (removed set h) k m in
      let two = and_parts (not (eqb k h)) (member set k) (sym (member_removed set h k) ∙ r.1) in
      ((λ e. both_ways (eqb k h) (not-true _ two.0) (eq-eqb k h (sym e))), members_in set k r.0 two.1)

  pub others_back : (k : ℕ) → h ≢ k → In k (members set) → In k (members (removed set h))
  others_back k differ m =
      let r = in_members set k m in
      members_in (removed set h) k r.0 (member_removed set h k ∙ and_from _ _ (ap not (ne_eqb k h (λ e. differ (sym e)))) r.1)

  others_differ : AllByRecursion (λ k. h ≢ k) (members (removed set h))
  others_differ = all_of _ (members (removed set h)) (λ k m. (others_in k m).0)

  pub others_points : (largest : ℕ) → list_all (has_point largest) (members set) ≡ true → list_all (has_point largest) (members (removed set h)) ≡ true
  others_points largest known =
      pass_all (λ k. has_point largest k ≡ true) (has_point largest) (λ k e. e) (members (removed set h))
      (all_of _ (members (removed set h)) (λ k m. each_in (has_point largest) (members set) known k (others_in k m).1))

  -- a member that has a point
  pub own_point : (largest : ℕ) → set < 2 ^ 32 → list_all (has_point largest) (members set) ≡ true → member set h ≡ true → has_point largest h ≡ true
  own_point largest fits known m = each_in (has_point largest) (members set) known h (members_in set h (member_id set h fits m) m)

  -- the constant of the one, by one inverse
  pub constant_quotient : {K : Type 0} {F : Ops K} (laws : FieldLaws F) (m : Points F) (z : K) → has_point m.largest h ≡ true
      → list_all (has_point m.largest) (members set) ≡ true
      → let ks = map m.at (members (removed set h)) in
      (gaps F ks (m.at h) ≢ F.zero) × (constant_in F m.at set h z ≡ F.mul (gaps F ks z) (F.inv (gaps F ks (m.at h))))
  constant_quotient laws m z own known =
      constant_beside laws m h (members (removed set h)) z own (others_points m.largest known) others_differ
