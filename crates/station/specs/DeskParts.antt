-- What the parts of the desk's code come to. Nothing here is needed to know what a step says. Assumes nothing.
use Rattle.std.specs.Prelude.{◌≡◌, ℕ, List, length, Ok, Err, Result}
use Rattle.fields.specs.Field.{Ops, Points, Finite}
use Rattle.circle.specs.Begin.{begin_answer, begin_tally}
use Rattle.circle.specs.Contribute.{contribute_answer, contribute_round, contribute_tally}
use Rattle.circle.specs.Finish.{finish_answer, finish_table, abandon_answer, end_tally}
use Rattle.circle.specs.Round.{RoundFacts}
use Rattle.circle.specs.State.{Facts}
use Rattle.circle.specs.declared.kind.Kind.{Kind}
use Rattle.circle.specs.declared.denial.Denial.{Denial}
use Rattle.station.specs.Desk.{Kept, settled, running, settled_kept}
use Rattle.station.specs.declared.desk.Settled.{Settled}
use Rattle.station.specs.declared.refusal.Refusal.{Refusal}
use Rattle.station.specs.declared.refusal.Refusal.TheVariants.{Denied}

-- what a dealing makes of an empty desk
abbrev pub settled_of : {K : Type 0} → Result (Settled K) Refusal → Result (Kept K) Refusal
settled_of (Ok s) = Ok (settled_kept s)
settled_of (Err refusal) = Err refusal

-- ## A round that was to end

abbrev pub places_of : Result Facts (RoundFacts × Denial) → ℕ
places_of (Ok c) = c.places
places_of (Err back) = back.0.circle.places

-- what is kept then
abbrev pub ended_kept : {K : Type 0} → Result Facts (RoundFacts × Denial) → List K → List K → Kept K
ended_kept (Ok c) table tally = record { holding = settled c; table = table; tally = tally }
ended_kept (Err back) table tally = record { holding = running back.0; table = table; tally = tally }

abbrev pub ended_answer : Result Facts (RoundFacts × Denial) → Result (Unit {0}) Refusal
ended_answer (Ok c) = Ok tt
ended_answer (Err back) = Err (Denied back.1)

-- ## What a call gives back is what it took

abbrev pub SameCircle : Facts → Result RoundFacts (Facts × Denial) → Type 0
SameCircle c (Ok r) = r.circle ≡ c
SameCircle c (Err back) = back.0 ≡ c

abbrev pub SameRound : RoundFacts → Result Facts (RoundFacts × Denial) → Type 0
SameRound r (Ok c) = c.places ≡ r.circle.places
SameRound r (Err back) = back.0 ≡ r

-- ## Calls over memory in a Vec

module _ {K : Type 0} (F : Ops K) (fin : Finite K) (m : Points F) where
  -- a round begun: the answer, and the tally after it
  pub record BegunIn (c : Facts) (kind : Kind) (tally : List K) (answer : Result RoundFacts (Facts × Denial)) (left : List K) : Type 0 where
    pub answered : answer ≡ begin_answer m.largest c kind (length tally)
    pub written : left ≡ begin_tally F answer tally
    pub same : SameCircle c answer

  -- a contribution: the answer, the round and the tally after it
  pub record ContributedIn (r : RoundFacts) (id : ℕ) (numbers table tally : List K) (answer : Result (Unit {0}) Denial) (next : RoundFacts) (left : List K) : Type 0 where
    pub answered : answer ≡ contribute_answer m.largest r id (length numbers) (length table) (length tally)
    pub counted : next ≡ contribute_round answer r id
    pub written : left ≡ contribute_tally F m.at answer r id numbers table tally

  -- a round finished: the answer, the table and the tally after it
  pub record FinishedIn (r : RoundFacts) (table tally : List K) (answer : Result Facts (RoundFacts × Denial)) (shares left : List K) : Type 0 where
    pub answered : answer ≡ finish_answer m.largest r (length table) (length tally)
    pub renewed : shares ≡ finish_table F m.at answer r table tally
    pub written : left ≡ end_tally F answer tally
    pub same : SameRound r answer

  -- a round abandoned: the answer, and the tally after it
  pub record AbandonedIn (r : RoundFacts) (tally : List K) (answer : Result Facts (RoundFacts × Denial)) (left : List K) : Type 0 where
    pub answered : answer ≡ abandon_answer r (length tally)
    pub written : left ≡ end_tally F answer tally
    pub same : SameRound r answer
