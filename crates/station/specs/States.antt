-- The states of a script, and those of one without the rounds. The invariant of a station names them, so they stand below its type.
-- Assumes nothing.
use Rattle.std.specs.Prelude.{◌≡◌, true}
use Rattle.std.specs.Coded.{Coded-set, coded_bool, ×_prop, Unit-prop}
use Rattle.station.specs.Fields.{field}
use Rattle.station.specs.Desk.{Holding, none, settled, running, Kept, kept}
use Rattle.script.specs.Steps.{is_modulus}
use Rattle.script.specs.declared.steps.FieldName.{FieldName}
use Rattle.script.specs.declared.steps.FieldName.TheVariants.{Z13, Z41, Z257, Byte}
use Rattle.station.specs.declared.station.Desks.{Desks}
use Rattle.station.specs.declared.station.Desks.TheVariants.{Unnamed, At13, At41, At257, AtByte}

-- no field is named yet, or one is, and its desk keeps what was dealt
pub data State : Type 0 where
  unnamed : State
  at : (name : FieldName) → Kept (field name).K → State

abbrev pub desks_state : Desks → State
desks_state Unnamed = unnamed
desks_state (At13 desk) = at Z13 (kept desk)
desks_state (At41 desk) = at Z41 (kept desk)
desks_state (At257 desk) = at Z257 (kept desk)
desks_state (AtByte desk) = at Byte (kept desk)

-- ## A script without the rounds

-- no round is open
abbrev pub IsIdle : Holding → Type 0
IsIdle (running r) = ⊥
IsIdle _ = Unit {0}

-- no field is named, or one by its modulus, and no round is open
abbrev pub IsDealing : State → Type 0
IsDealing unnamed = Unit {0}
IsDealing (at name k) = (is_modulus name ≡ true) × IsIdle k.holding

-- both are facts, with at most one proof
pub IsIdle-prop : (holding : Holding) → IsProp (IsIdle holding)
IsIdle-prop none = Unit-prop
IsIdle-prop (settled c) = Unit-prop
IsIdle-prop (running r) = λ x y. absurd x

pub IsDealing-prop : (s : State) → IsProp (IsDealing s)
IsDealing-prop unnamed = Unit-prop
IsDealing-prop (at name k) = ×_prop (Coded-set coded_bool (is_modulus name) true) (IsIdle-prop k.holding)
