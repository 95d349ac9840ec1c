-- The states of a script, and what a line makes of them. Assumes nothing.
use Rattle.std.specs.Prelude.{ℕ, Bool, false, List, [], Ok, Err, Result}
use Rattle.std.specs.Option.{option_map_or}
use Rattle.fields.specs.Field.{Ops, Points, Finite}
use Rattle.station.specs.Fields.{field}
pub use Rattle.station.specs.States.{State, unnamed, at, desks_state, IsIdle, IsDealing}
use Rattle.station.specs.Desk.{Said, Kept, nothing, kept_after, reply, set_of, deal_move, begin_move, contribute_move, finish_move, abandon_move, show_said, open_said}
use Rattle.circle.specs.declared.kind.Kind.TheVariants.{Refresh, Dismissal, Change, Admission}
use Rattle.script.specs.Steps.{Meaning, named, dealt, refreshed, dismissed, changed, admitted, contributed, finished, abandoned, shown, opened, form}
use Rattle.script.specs.declared.steps.FieldName.{FieldName}
use Rattle.script.specs.declared.steps.FieldName.TheVariants.{Z13, Z41, Z257, Byte}
use Rattle.station.specs.declared.refusal.Refusal.{Refusal}
use Rattle.station.specs.declared.refusal.Refusal.TheVariants.{NotOfForm, NotAllowed}
use Rattle.station.specs.declared.station.Station.{Station}

-- ## A step at the desk of a field that is named

module _ {K : Type 0} (F : Ops K) (fin : Finite K) (m : Points F) where
  -- what a step makes of what is kept; showing and opening change nothing
  abbrev pub move : Kept K → Meaning → Result (Kept K) Refusal
  move k (named field) = Err NotAllowed
  move k (dealt threshold places ids key numbers) = deal_move F fin m k.holding threshold places ids key numbers
  move k refreshed = begin_move F fin m k.holding Refresh k
  move k (dismissed id) = begin_move F fin m k.holding (Dismissal id) k
  move k (changed threshold helpers) = begin_move F fin m k.holding (Change threshold (set_of helpers)) k
  move k (admitted id helpers) = begin_move F fin m k.holding (Admission id (set_of helpers)) k
  move k (contributed id numbers) = contribute_move F fin m k.holding id numbers k
  move k finished = finish_move F fin m k.holding k
  move k abandoned = abandon_move F fin m k.holding k
  move k (shown id) = Ok k
  move k (opened cards) = Ok k

  abbrev pub desk_kept : Kept K → Meaning → Kept K
  desk_kept k step = kept_after (move k step) k

  -- what a step is answered: the cards' numbers, the key, or else how the circle stands after it
  abbrev pub desk_said : (K → K → Bool) → Kept K → Meaning → Said
  desk_said same k (shown id) = show_said F fin m k.holding k.table id
  desk_said same k (opened cards) = open_said F fin m same k.holding cards
  desk_said same k step = reply (move k step)

-- ## States

-- the second braces are the members of the bound, which Rattle passes
abbrev pub state : {rounds : ℕ} {script : _} → Station rounds script → State
state s = desks_state s.of_script.desks

-- elements are below this
abbrev pub element_size : State → ℕ
element_size unnamed = 65536
element_size (at name k) = (field name).finite.size

-- the state after a field is named
abbrev pub fresh : FieldName → State
fresh Z13 = at Z13 nothing
fresh Z41 = at Z41 nothing
fresh Z257 = at Z257 nothing
fresh Byte = at Byte nothing

-- before a field is named, only naming one is allowed
abbrev pub first_said : Meaning → Said
first_said (named field) = Ok []
first_said _ = Err NotAllowed

abbrev pub first_state : Meaning → State
first_state (named field) = fresh field
first_state _ = unnamed

abbrev pub step_said : State → Meaning → Said
step_said unnamed step = first_said step
step_said (at name k) step =
    let f = field name in
    desk_said f.ops f.finite f.points f.equal.same k step

abbrev pub step_state : State → Meaning → State
step_state unnamed step = first_state step
step_state (at name k) step =
    let f = field name in
    at name (desk_kept f.ops f.finite f.points k step)

-- ## Lines

-- what a line, without its newline, is answered in a script with the rounds or without, and the state after it: a line
-- that is not of the form changes nothing
abbrev pub line_said : Bool → State → List ℕ → Said
line_said rounds s line = option_map_or (step_said s) (form rounds (element_size s) line) (Err NotOfForm)

abbrev pub line_state : Bool → State → List ℕ → State
line_state rounds s line = option_map_or (step_state s) (form rounds (element_size s) line) s

-- ## A script without the rounds

-- without the rounds, a line of such a state leads to such a state
abbrev pub StaysDealing : Type 0
StaysDealing = (s : State) (line : List ℕ) → IsDealing s → IsDealing (line_state false s line)
