-- What a call gives back is what it took. Assumes nothing.
use Rattle.std.proofs.Common.{ℕ, ◌*◌, Bool, true, false, cond, not, ◌||◌, eqb, refl}
use Rattle.circle.specs.Ids.{within_largest, subset}
use Rattle.circle.specs.Begin.{begin_answer}
use Rattle.circle.specs.Finish.{finish_answer}
use Rattle.circle.specs.Kind.{contributors, ids_known, threshold_fits, on_roll, newcomer_new, helpers_enough, enough_stay, epoch_left}
use Rattle.circle.specs.Round.{RoundFacts, after}
use Rattle.circle.specs.State.{Facts}
use Rattle.circle.specs.declared.kind.Kind.{Kind}
use Rattle.station.specs.DeskParts.{SameCircle, SameRound}

-- what both ways of a test have, its value has
either : {A : Type 0} (P : A → Type 0) (b : Bool) {x y : A} → P x → P y → P (cond b x y)
either P true px py = px
either P false px py = py

pub begin_same : (largest : ℕ) (c : Facts) (k : Kind) (tally : ℕ) → SameCircle c (begin_answer largest c k tally)
begin_same largest c k tally =
    let P = SameCircle c in
    either P (not (ids_known k largest)) refl
    (either P (not (threshold_fits k c.roll)) refl
    (either P (not (eqb tally (32 * c.places))) refl
    (either P (not (on_roll k c.roll)) refl
    (either P (not (newcomer_new k c.roll)) refl
    (either P (not (helpers_enough k c.threshold)) refl
    (either P (not (enough_stay k c.roll c.threshold)) refl
    (either P (not (epoch_left k c.epoch)) refl refl)))))))

pub finish_same : (largest : ℕ) (r : RoundFacts) (table tally : ℕ) → SameRound r (finish_answer largest r table tally)
finish_same largest r table tally =
    let P = SameRound r in
    let n = 32 * r.circle.places in
    either P (not (within_largest (after r).roll largest)) refl
    (either P (not (eqb table n) || not (eqb tally n)) refl
    (either P (not (subset (contributors r.kind r.circle.roll) r.contributed)) refl refl))
