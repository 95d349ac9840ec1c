-- What a contribution answers, and what it leaves in round and tally. Assumes nothing.
use Rattle.std.specs.Prelude.{ℕ, ◌*◌, cond, not, ◌||◌, List, [], ◌∷◌, ◌++◌, Ok, Err, Result, ◌==◌}
use Rattle.fields.specs.Field.{Ops, sub}
use Rattle.circle.specs.Ids.{member, members, inserted, removed, within_largest, has_point}
use Rattle.circle.specs.Polynomial.{eval, value, polynomial, sum}
use Rattle.circle.specs.declared.denial.Denial.{Denial}
use Rattle.circle.specs.declared.denial.Denial.TheVariants.{NoSuchId, Length, NotOnRoll, AlreadyContributed}
use Rattle.circle.specs.declared.kind.Kind.{Kind}
use Rattle.circle.specs.declared.kind.Kind.TheVariants.{Refresh, Dismissal, Change, Admission}
use Rattle.circle.specs.Kind.{contributors}
use Rattle.circle.specs.Lagrange.{constant_in}
use Rattle.circle.specs.Round.{RoundFacts, after, terms}
use Rattle.circle.specs.Table.{entry, grid, only, piece}

-- By the field's largest id, the round, the contributor, and the lengths of its numbers, of the table and of the tally.
-- A round over a roll with an id that has no point in the field is denied like the id itself; dealing makes no such circle.
abbrev pub contribute_answer : ℕ → RoundFacts → ℕ → ℕ → ℕ → ℕ → Result (Unit {0}) Denial
contribute_answer largest r id numbers table tally =
    let places = r.circle.places in
    cond (not (has_point largest id) || not (within_largest (after r).roll largest)) (Err NoSuchId)
    (cond (not (numbers == places * terms r) || (not (table == 32 * places) || not (tally == 32 * places))) (Err Length)
    (cond (not (member (contributors r.kind r.circle.roll) id)) (Err NotOnRoll)
    (cond (member r.contributed id) (Err AlreadyContributed)
    (Ok tt))))

-- the round after a contribution
abbrev pub contribute_round : Result (Unit {0}) Denial → RoundFacts → ℕ → RoundFacts
contribute_round (Ok _) r id = record { circle = r.circle; kind = r.kind; contributed = inserted r.contributed id }
contribute_round (Err d) r id = r

module _ {K : Type 0} (F : Ops K) (at : ℕ → K) where
  -- a helper's portions at one place: its numbers, and last what they lack of the whole
  abbrev pub portions : K → List K → List K
  portions whole numbers = numbers ++ sub F whole (sum F numbers) ∷ []

  -- the k-th portion is for the k-th id, and nothing for any other
  abbrev pub portion : List ℕ → List K → ℕ → K
  portion [] xs h = F.zero
  portion (i ∷ is) [] h = F.zero
  portion (i ∷ is) (x ∷ xs) h = cond (h == i) x (portion is xs h)

  -- what the id i gives to h at one place, where i has the share and gives the numbers
  abbrev pub part : Kind → ℕ → ℕ → K → List K → ℕ → K
  part Refresh roll i share numbers h = only F roll h (value F numbers (at h))
  part (Dismissal leaver) roll i share numbers h = only F (removed roll leaver) h (value F numbers (at h))
  part (Change threshold helpers) roll i share numbers h =
      only F roll h (F.mul (constant_in F at helpers i F.zero) (eval F (polynomial F share numbers) (at h)))
  part (Admission newcomer helpers) roll i share numbers h =
      portion (members helpers) (portions (F.mul (constant_in F at helpers i (at newcomer)) share) numbers) h

  -- the tally of h at the place p, once the id i has contributed
  abbrev pub grown : RoundFacts → ℕ → List K → List K → List K → ℕ → ℕ → K
  grown r i numbers table tally p h =
      F.add (entry F.zero tally p h)
      (part r.kind r.circle.roll i (entry F.zero table p i) (piece (terms r) numbers p) h)

  -- the tally after a contribution: a denial leaves it as it was
  abbrev pub contribute_tally : Result (Unit {0}) Denial → RoundFacts → ℕ → List K → List K → List K → List K
  contribute_tally (Ok _) r i numbers table tally = grid r.circle.places (grown r i numbers table tally)
  contribute_tally (Err d) r i numbers table tally = tally
