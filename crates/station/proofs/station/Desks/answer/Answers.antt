use Rattle.std.proofs.Common.{◌≡◌, Ok, Err, Some, None, Option, Result, inl, inr, refl, ap, ◌∙◌}
use Rattle.std.specs.Option.{option_map_or}
use Rattle.script.specs.Steps.{Meaning}
use Rattle.script.specs.declared.steps.FieldName.{FieldName}
use Rattle.script.specs.declared.steps.FieldName.TheVariants.{Z13, Z41, Z257, Byte}
use Rattle.station.specs.Desk.{Kept}
use Rattle.station.specs.Fields.{field}
use Rattle.station.specs.Refusal.{IfAnswered, IfLacking, StaysOrSteps}
use Rattle.station.specs.Station.{at, desk_kept, step_state}
use Rattle.station.specs.declared.refusal.Failure.{Failure}
use Rattle.station.specs.declared.refusal.Failure.TheVariants.{Refused, OutOfMemory}
use Rattle.station.proofs.station.Desks.answer.Goals as goal

-- what a line makes of the desk is what it makes of the state
module _ (name : FieldName) (k : Kept (field name).K) where
  abbrev kept_at : Option Meaning → Kept (field name).K
  kept_at step =
      let f = field name in
      option_map_or (desk_kept f.ops f.finite f.points k) step k

  state_at : (step : Option Meaning) → at name (kept_at step) ≡ option_map_or (step_state (at name k)) step (at name k)
  state_at None = refl
  state_at (Some step) = refl

  state_after : {A : Type 0} (r : Result A Failure) (next : Kept (field name).K) (step : Option Meaning)
      → IfAnswered r (λ _. next ≡ kept_at step) → IfAnswered r (λ _. at name next ≡ option_map_or (step_state (at name k)) step (at name k))
  state_after (Ok x) next step is = ap (at name) is ∙ state_at step
  state_after (Err (Refused refusal)) next step is = ap (at name) is ∙ state_at step
  state_after (Err (OutOfMemory error)) next step is = tt

  state_lacking : {A : Type 0} (r : Result A Failure) (next : Kept (field name).K) (step : Option Meaning)
      → IfLacking r (StaysOrSteps k (kept_at step) next)
      → IfLacking r (StaysOrSteps (at name k) (option_map_or (step_state (at name k)) step (at name k)) (at name next))
  state_lacking (Ok x) next step is = tt
  state_lacking (Err (Refused refusal)) next step is = tt
  state_lacking (Err (OutOfMemory error)) next step (inl same) = inl (ap (at name) same)
  state_lacking (Err (OutOfMemory error)) next step (inr is) = inr (ap (at name) is ∙ state_at step)

pub returns-in-At13-clause-said : goal.returns-in-At13-clause-said
returns-in-At13-clause-said g c = rw c.in-At13.is c.answer_at.ensures.said

pub returns-in-At13-clause-state : goal.returns-in-At13-clause-state
returns-in-At13-clause-state g c = rw c.in-At13.is (state_after Z13 _ c.answer_at.result _ _ c.answer_at.ensures.kept)

pub returns-in-At41-clause-said : goal.returns-in-At41-clause-said
returns-in-At41-clause-said g c = rw c.in-At41.is c.answer_at-in-At41.ensures.said

pub returns-in-At41-clause-state : goal.returns-in-At41-clause-state
returns-in-At41-clause-state g c = rw c.in-At41.is (state_after Z41 _ c.answer_at-in-At41.result _ _ c.answer_at-in-At41.ensures.kept)

pub returns-in-At257-clause-said : goal.returns-in-At257-clause-said
returns-in-At257-clause-said g c = rw c.in-At257.is c.answer_at-in-At257.ensures.said

pub returns-in-At257-clause-state : goal.returns-in-At257-clause-state
returns-in-At257-clause-state g c = rw c.in-At257.is (state_after Z257 _ c.answer_at-in-At257.result _ _ c.answer_at-in-At257.ensures.kept)

pub returns-in-AtByte-clause-said : goal.returns-in-AtByte-clause-said
returns-in-AtByte-clause-said g c = rw c.in-AtByte.is c.answer_at-in-AtByte.ensures.said

pub returns-in-AtByte-clause-state : goal.returns-in-AtByte-clause-state
returns-in-AtByte-clause-state g c = rw c.in-AtByte.is (state_after Byte _ c.answer_at-in-AtByte.result _ _ c.answer_at-in-AtByte.ensures.kept)

pub returns-in-At13-clause-lacking : goal.returns-in-At13-clause-lacking
returns-in-At13-clause-lacking g c = rw c.in-At13.is (state_lacking Z13 _ c.answer_at.result _ _ c.answer_at.ensures.lacking)

pub returns-in-At41-clause-lacking : goal.returns-in-At41-clause-lacking
returns-in-At41-clause-lacking g c = rw c.in-At41.is (state_lacking Z41 _ c.answer_at-in-At41.result _ _ c.answer_at-in-At41.ensures.lacking)

pub returns-in-At257-clause-lacking : goal.returns-in-At257-clause-lacking
returns-in-At257-clause-lacking g c = rw c.in-At257.is (state_lacking Z257 _ c.answer_at-in-At257.result _ _ c.answer_at-in-At257.ensures.lacking)

pub returns-in-AtByte-clause-lacking : goal.returns-in-AtByte-clause-lacking
returns-in-AtByte-clause-lacking g c = rw c.in-AtByte.is (state_lacking Byte _ c.answer_at-in-AtByte.result _ _ c.answer_at-in-AtByte.ensures.lacking)
