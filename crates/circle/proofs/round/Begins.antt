-- What holds of a round, where the circle has what its kind asks. Assumes nothing.
use Rattle.std.proofs.Common.{◌≡◌, ℕ, ◌≤◌, true, eqb, leb, ap, ◌∙◌, inl, inr, arith}
use lib.Count.{ones}
use Rattle.std.proofs.lemmas.Bool.{cases_Bool, and_parts, or_right, leb-true, ltb-true}
use Rattle.circle.specs.Ids.{is_id, member, inserted, removed, size, subset}
use Rattle.circle.proofs.ids.Laws.{member_inserted, inserted_old, inserted_none, size_inserted, subset_decides}
use Rattle.circle.specs.declared.kind.Kind.{Kind}
use Rattle.circle.specs.declared.kind.Kind.TheVariants.{Refresh, Dismissal, Change, Admission}
use Rattle.circle.specs.Kind.{contributors, roll_after, threshold_after, epoch_after, threshold_fits, on_roll, enough_stay, epoch_left}

-- ## Sets

subset_same : (set : ℕ) → subset set set ≡ true
subset_same set = (subset_decides set set).1 (λ h id m. m)

-- a set with one id more has what it had, and as many at least
member_kept : (set h k : ℕ) → member set k ≡ true → member (inserted set h) k ≡ true
member_kept set h k m =
    elim (cases_Bool (is_id h)) [
      | inl id ↦ member_inserted set h k id ∙ or_right (eqb k h) _ m
      | inr none ↦ ap (λ s. member s k) (inserted_none set h none) ∙ m
    ]

size_kept : (set h : ℕ) → size set ≤ size (inserted set h)
size_kept set h =
    elim (cases_Bool (is_id h)) [
      | inl id ↦
          elim (cases_Bool (member set h)) [
            | inl m ↦ omega (arith, ap ones (inserted_old set h m))
            | inr m ↦ omega (arith, size_inserted set h id m)
          ]
      | inr none ↦ omega (arith, ap ones (inserted_none set h none))
    ]

-- ## By the kind

-- those who contribute are on the roll that the round leads to
pub among : (k : Kind) (roll : ℕ) → on_roll k roll ≡ true → subset (contributors k roll) (roll_after k roll) ≡ true
among Refresh roll on = subset_same roll
among (Dismissal leaver) roll on = subset_same (removed roll leaver)
among (Change threshold helpers) roll on = on
among (Admission newcomer helpers) roll on =
    (subset_decides helpers (inserted roll newcomer)).1 (λ h id m. member_kept roll newcomer h ((subset_decides helpers roll).0 on h id m))

-- the threshold that it leads to is from 2 to the size of that roll
pub low : (k : Kind) (roll old : ℕ) → 2 ≤ old → threshold_fits k roll ≡ true → 2 ≤ threshold_after k old
low Refresh roll old two fits = two
low (Dismissal leaver) roll old two fits = two
low (Change threshold helpers) roll old two fits = leb-true 2 threshold (and_parts (leb 2 threshold) _ fits).0
low (Admission newcomer helpers) roll old two fits = two

pub high : (k : Kind) (roll old : ℕ) → old ≤ ones roll → threshold_fits k roll ≡ true → enough_stay k roll old ≡ true
    → threshold_after k old ≤ ones (roll_after k roll)
high Refresh roll old most fits stay = most
high (Dismissal leaver) roll old most fits stay = leb-true old (size (removed roll leaver)) stay
high (Change threshold helpers) roll old most fits stay = leb-true threshold (size roll) (and_parts (leb 2 threshold) _ fits).1
high (Admission newcomer helpers) roll old most fits stay = omega (arith, size_kept roll newcomer)

-- the epoch that it leads to is no later than the last
pub last : (k : Kind) (epoch : ℕ) → epoch ≤ 9999 → epoch_left k epoch ≡ true → epoch_after k epoch ≤ 9999
last Refresh epoch most left = omega (arith, ltb-true epoch 9999 left)
last (Dismissal leaver) epoch most left = omega (arith, ltb-true epoch 9999 left)
last (Change threshold helpers) epoch most left = omega (arith, ltb-true epoch 9999 left)
last (Admission newcomer helpers) epoch most left = most
