-- What finishing and abandoning a round answer, and what they leave in table and tally. Assumes nothing.
use Rattle.std.specs.Prelude.{ℕ, ◌*◌, cond, not, ◌||◌, List, map, Ok, Err, Result, ◌==◌}
use Rattle.fields.specs.Field.{Ops}
use Rattle.circle.specs.Ids.{members, within_largest, subset}
use Rattle.circle.specs.Polynomial.{sum}
use Rattle.circle.specs.declared.denial.Denial.{Denial}
use Rattle.circle.specs.declared.denial.Denial.TheVariants.{NoSuchId, Length, ContributionMissing}
use Rattle.circle.specs.declared.kind.Kind.{Kind}
use Rattle.circle.specs.declared.kind.Kind.TheVariants.{Refresh, Dismissal, Change, Admission}
use Rattle.circle.specs.declared.round.Receipt.{Receipt}
use Rattle.circle.specs.declared.round.Round.{Round}
use Rattle.circle.specs.declared.state.Circle.{Circle}
use Rattle.circle.specs.Kind.{contributors}
use Rattle.circle.specs.Round.{RoundFacts, round_facts, after}
use Rattle.circle.specs.State.{Facts, facts}
use Rattle.circle.specs.Table.{cleared, entry, grid, only}

-- the answer by its facts: a circle, or the round back and the denial
abbrev pub ended : {K : Type 0} → Result (Circle K) (Round K × Receipt × Denial) → Result Facts (RoundFacts × Denial)
ended (Ok c) = Ok (facts c)
ended (Err back) = Err (round_facts back.0, back.2)

-- By the field's largest id, the round, and the lengths of table and tally.
-- A round over a roll with an id that has no point in the field is denied like the id itself; dealing makes no such circle.
abbrev pub finish_answer : ℕ → RoundFacts → ℕ → ℕ → Result Facts (RoundFacts × Denial)
finish_answer largest r table tally =
    let places = r.circle.places in
    cond (not (within_largest (after r).roll largest)) (Err (r, NoSuchId))
    (cond (not (table == 32 * places) || not (tally == 32 * places)) (Err (r, Length))
    (cond (not (subset (contributors r.kind r.circle.roll) r.contributed)) (Err (r, ContributionMissing))
    (Ok (after r))))

-- By the round and the length of the tally.
abbrev pub abandon_answer : RoundFacts → ℕ → Result Facts (RoundFacts × Denial)
abandon_answer r tally =
    cond (not (tally == 32 * r.circle.places)) (Err (r, Length))
    (Ok r.circle)

-- the tally after the end of a round: a denial leaves it as it was
abbrev pub end_tally : {K : Type 0} → Ops K → Result Facts (RoundFacts × Denial) → List K → List K
end_tally F (Ok c) tally = cleared F tally
end_tally F (Err back) tally = tally

module _ {K : Type 0} (F : Ops K) (at : ℕ → K) where
  -- the share of h at one place, by the shares and the tallies there
  abbrev pub share_after : Kind → (ℕ → K) → (ℕ → K) → ℕ → K
  share_after Refresh share tally h = F.add (share h) (F.mul (at h) (tally h))
  share_after (Dismissal leaver) share tally h = F.add (share h) (F.mul (at h) (tally h))
  share_after (Change threshold helpers) share tally h = tally h
  share_after (Admission newcomer helpers) share tally h = cond (h == newcomer) (sum F (map tally (members helpers))) (share h)

  -- the share of h at the place p, zero off the roll that the round leads to
  abbrev pub finished : RoundFacts → List K → List K → ℕ → ℕ → K
  finished r table tally p h =
      only F (after r).roll h (share_after r.kind (entry F.zero table p) (entry F.zero tally p) h)

  -- the table after finishing: a denial leaves it as it was
  abbrev pub finish_table : Result Facts (RoundFacts × Denial) → RoundFacts → List K → List K → List K
  finish_table (Ok c) r table tally = grid r.circle.places (finished r table tally)
  finish_table (Err back) r table tally = table
