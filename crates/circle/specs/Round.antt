-- A round by its numbers. Assumes nothing.
use Rattle.std.specs.Prelude.{ℕ, ◌-◌}
use Rattle.circle.specs.declared.kind.Kind.{Kind}
use Rattle.circle.specs.declared.round.Round.{Round}
use Rattle.circle.specs.Kind.{roll_after, threshold_after, epoch_after}
use Rattle.circle.specs.State.{Facts, facts}

-- the circle that abandoning gives back, what the round is for, and who has contributed
pub record RoundFacts : Type 0 where
  pub circle : Facts
  pub kind : Kind
  pub contributed : ℕ

abbrev pub round_facts : {K : Type 0} → Round K → RoundFacts
round_facts r = record { circle = facts r.circle; kind = r.kind; contributed = r.contributed }

-- the circle that finishing gives
abbrev pub after : RoundFacts → Facts
after r = record {
  roll = roll_after r.kind r.circle.roll;
  threshold = threshold_after r.kind r.circle.threshold;
  epoch = epoch_after r.kind r.circle.epoch;
  places = r.circle.places;
}

-- how many numbers a contribution has at each place
abbrev pub terms : RoundFacts → ℕ
terms r = (after r).threshold - 1
