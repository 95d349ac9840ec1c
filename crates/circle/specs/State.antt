-- A circle by its numbers. Assumes nothing.
use Rattle.std.specs.Prelude.{ℕ, Ok, Err, Result}
use Rattle.circle.specs.declared.denial.Denial.{Denial}
use Rattle.circle.specs.declared.state.Circle.{Circle}

-- the facts of a circle: two circles of one field are the same where these are
pub record Facts : Type 0 where
  pub roll : ℕ
  pub threshold : ℕ
  pub epoch : ℕ
  pub places : ℕ

abbrev pub facts : {K : Type 0} → Circle K → Facts
facts c = record { roll = c.roll; threshold = c.threshold; epoch = c.epoch; places = c.places }

-- the answer of a call that gives a circle, by the circle's facts
abbrev pub answered : {K : Type 0} → Result (Circle K) Denial → Result Facts Denial
answered (Ok c) = Ok (facts c)
answered (Err d) = Err d
