-- Without the rounds, no line opens a round. Assumes nothing.
use Rattle.std.proofs.Common.{ℕ, List, false, Ok, Err, Some, None, Option, Result, refl}
use Rattle.std.specs.Option.{option_map_or}
use Rattle.fields.specs.Field.{Ops, Points, Finite}
use Rattle.circle.specs.State.{Facts}
use Rattle.circle.specs.declared.denial.Denial.{Denial}
use Rattle.script.specs.Steps.{Meaning, named, dealt, refreshed, dismissed, changed, admitted, contributed, finished, abandoned, shown, opened, any_form, known}
use Rattle.script.specs.declared.steps.FieldName.TheVariants.{Z13, Z41, Z257, Byte}
use Rattle.std.proofs.lemmas.Map.Entries.{option_filter}
use Rattle.station.specs.Desk.{Kept, Holding, none, settled, running, kept_after, dealt_move, dealt_answer, deal_move}
use Rattle.station.specs.Fields.{field}
use Rattle.station.specs.Station.{State, unnamed, at, IsIdle, IsDealing, StaysDealing, step_state}

module _ {K : Type 0} (F : Ops K) (fin : Finite K) (m : Points F) (threshold places : ℕ) (ids key ns : List ℕ) where
  dealt_idle : (answer : Result Facts Denial) (k : Kept K) → IsIdle k.holding → IsIdle (kept_after (dealt_move F fin m answer key ns places) k).holding
  dealt_idle (Ok c) k idle = tt
  dealt_idle (Err d) k idle = idle

  deal_idle : (h : Holding) (k : Kept K) → IsIdle k.holding → IsIdle (kept_after (deal_move F fin m h threshold places ids key ns) k).holding
  deal_idle none k idle = dealt_idle (dealt_answer F fin m threshold places ids key ns) k idle
  deal_idle (settled c) k idle = idle
  deal_idle (running r) k idle = idle

-- a step that is known without the rounds
step_deals : (s : State) (step : Meaning) → IsDealing s → IsDealing (option_map_or (step_state s) (option_filter (known false) (Some step)) s)
step_deals unnamed (named Z13) d = (refl, tt)
step_deals unnamed (named Z41) d = (refl, tt)
step_deals unnamed (named Z257) d = (refl, tt)
step_deals unnamed (named Byte) d = tt
step_deals unnamed (dealt threshold places ids key ns) d = tt
step_deals unnamed refreshed d = tt
step_deals unnamed (dismissed id) d = tt
step_deals unnamed (changed threshold helpers) d = tt
step_deals unnamed (admitted id helpers) d = tt
step_deals unnamed (contributed id ns) d = tt
step_deals unnamed finished d = tt
step_deals unnamed abandoned d = tt
step_deals unnamed (shown id) d = tt
step_deals unnamed (opened cards) d = tt
step_deals (at name k) (named Z13) d = d
step_deals (at name k) (named Z41) d = d
step_deals (at name k) (named Z257) d = d
step_deals (at name k) (named Byte) d = d
step_deals (at name k) (dealt threshold places ids key ns) d =
    let f = field name in
    (d.0, deal_idle f.ops f.finite f.points threshold places ids key ns k.holding k d.1)
step_deals (at name k) refreshed d = d
step_deals (at name k) (dismissed id) d = d
step_deals (at name k) (changed threshold helpers) d = d
step_deals (at name k) (admitted id helpers) d = d
step_deals (at name k) (contributed id ns) d = d
step_deals (at name k) finished d = d
step_deals (at name k) abandoned d = d
step_deals (at name k) (shown id) d = d
step_deals (at name k) (opened cards) d = d

form_deals : (s : State) (o : Option Meaning) → IsDealing s → IsDealing (option_map_or (step_state s) (option_filter (known false) o) s)
form_deals s None d = d
form_deals s (Some step) d = step_deals s step d

pub stays_dealing : StaysDealing
stays_dealing s line d = form_deals s (any_form _ line) d
