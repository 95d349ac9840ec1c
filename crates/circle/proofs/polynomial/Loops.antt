-- What the code for values and constants uses. Assumes nothing.
use Rattle.std.proofs.Common.{◌≡◌, ℕ, ◌≤◌, true, leb, ◌≢◌, List, [], ◌∷◌, map, reverse, fold, sym, refl, ap, ◌∙◌}
use Rattle.std.specs.List.{AllByRecursion, list_all}
use Rattle.std.proofs.lemmas.List.Sums.{fold_push}
use Rattle.std.proofs.lemmas.Grind.{common_steps, reverse_onto}
use Rattle.std.proofs.lemmas.Bool.{and_parts, leb-true}
use Rattle.fields.specs.Field.{Ops, FieldLaws, Points}
use Rattle.circle.specs.Ids.{has_point}
use Rattle.circle.specs.Lists.{Distinct}
use Rattle.circle.specs.Polynomial.{eval, constant}
use Rattle.circle.specs.LagrangeParts.{gaps}
use Rattle.circle.proofs.polynomial.ConstantLaws.{gaps≢zero, constant_fraction}

-- Horner's rule
pub eval_fold : {K : Type 0} (F : Ops K) (f : List K) (x : K) → eval F f x ≡ fold (λ sum c. F.add c (F.mul x sum)) F.zero (reverse f)
eval_fold {K} F [] x = refl
eval_fold {K} F (c ∷ f) x =
    let step : K → K → K = λ sum d. F.add d (F.mul x sum) in
    ap (λ sum. step sum c) (eval_fold F f x) ∙ sym (fold_push step F.zero (reverse f) c) ∙ ap (fold step F.zero) (sym (reverse_onto f c []))

-- what a search for the value lacks
pub ruleset horner = (common_steps, eval_fold)

-- ## The points of different ids differ

module _ {K : Type 0} {F : Ops K} (m : Points F) where
  pub point_known : (h : ℕ) → has_point m.largest h ≡ true → (1 ≤ h) × (h ≤ m.largest)
  point_known h known =
      let parts = and_parts (leb 1 h) (leb h m.largest) known in
      (leb-true 1 h parts.0, leb-true h m.largest parts.1)

  apart_from : (h : ℕ) → has_point m.largest h ≡ true → (ids : List ℕ) → list_all (has_point m.largest) ids ≡ true
      → AllByRecursion (λ k. h ≢ k) ids → AllByRecursion (λ y. m.at h ≢ y) (map m.at ids)
  apart_from h own [] known differ = tt
  apart_from h own (k ∷ ids) known differ =
      let parts = and_parts (has_point m.largest k) (list_all (has_point m.largest) ids) known in
      let a = point_known h own in
      let b = point_known k parts.0 in
      ((λ e. differ.0 (m.apart h k a.0 a.1 b.0 b.1 e)), apart_from h own ids parts.1 differ.1)

  pub points_differ : (ids : List ℕ) → list_all (has_point m.largest) ids ≡ true → Distinct ids → Distinct (map m.at ids)
  points_differ [] known differ = tt
  points_differ (h ∷ ids) known differ =
      let parts = and_parts (has_point m.largest h) (list_all (has_point m.largest) ids) known in
      (apart_from h parts.0 ids parts.1 differ.0, points_differ ids parts.1 differ.1)

-- the constant of an id beside other ids, by one inverse
pub constant_beside : {K : Type 0} {F : Ops K} (laws : FieldLaws F) (m : Points F) (h : ℕ) (ids : List ℕ) (z : K) → has_point m.largest h ≡ true
    → list_all (has_point m.largest) ids ≡ true → AllByRecursion (λ k. h ≢ k) ids
    → (gaps F (map m.at ids) (m.at h) ≢ F.zero)
    × (constant F (map m.at ids) (m.at h) z ≡ F.mul (gaps F (map m.at ids) z) (F.inv (gaps F (map m.at ids) (m.at h))))
constant_beside {K} {F} laws m h ids z own known differ =
    let apart = apart_from m h own ids known differ in
    (gaps≢zero laws (map m.at ids) (m.at h) apart, constant_fraction laws (map m.at ids) (m.at h) z apart)
