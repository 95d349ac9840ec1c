-- What beginning a round answers, and what it leaves in the tally. One text for the four kinds. Assumes nothing.
use Rattle.std.specs.Prelude.{ℕ, ◌*◌, cond, not, List, Ok, Err, Result, ◌==◌}
use Rattle.fields.specs.Field.{Ops}
use Rattle.circle.specs.declared.denial.Denial.{Denial}
use Rattle.circle.specs.declared.denial.Denial.TheVariants.{NoSuchId, Threshold, Length, NotOnRoll, AlreadyOnRoll, WrongHelpers, TooFewLeft, LastEpoch}
use Rattle.circle.specs.declared.kind.Kind.{Kind}
use Rattle.circle.specs.declared.round.Receipt.{Receipt}
use Rattle.circle.specs.declared.round.Round.{Round}
use Rattle.circle.specs.declared.state.Circle.{Circle}
use Rattle.circle.specs.Kind.{ids_known, threshold_fits, on_roll, newcomer_new, helpers_enough, enough_stay, epoch_left}
use Rattle.circle.specs.Round.{RoundFacts, round_facts}
use Rattle.circle.specs.State.{Facts, facts}
use Rattle.circle.specs.Table.{cleared}

-- the answer by its facts: a round, or the circle back and the denial
abbrev pub begun : {K : Type 0} → Result (Round K × Receipt) (Circle K × Denial) → Result RoundFacts (Facts × Denial)
begun (Ok given) = Ok (round_facts given.0)
begun (Err back) = Err (facts back.0, back.1)

-- By the field's largest id, the circle, the kind of round, and the length of the tally.
abbrev pub begin_answer : ℕ → Facts → Kind → ℕ → Result RoundFacts (Facts × Denial)
begin_answer largest c k tally =
    cond (not (ids_known k largest)) (Err (c, NoSuchId))
    (cond (not (threshold_fits k c.roll)) (Err (c, Threshold))
    (cond (not (tally == 32 * c.places)) (Err (c, Length))
    (cond (not (on_roll k c.roll)) (Err (c, NotOnRoll))
    (cond (not (newcomer_new k c.roll)) (Err (c, AlreadyOnRoll))
    (cond (not (helpers_enough k c.threshold)) (Err (c, WrongHelpers))
    (cond (not (enough_stay k c.roll c.threshold)) (Err (c, TooFewLeft))
    (cond (not (epoch_left k c.epoch)) (Err (c, LastEpoch))
    (Ok (record { circle = c; kind = k; contributed = 0 })))))))))

-- the tally after a beginning: a denial leaves it as it was
abbrev pub begin_tally : {K : Type 0} → Ops K → Result RoundFacts (Facts × Denial) → List K → List K
begin_tally F (Ok r) tally = cleared F tally
begin_tally F (Err back) tally = tally
