-- What a whole round does to the polynomials that the shares lie on. Assumes nothing.
use Rattle.std.specs.Prelude.{◌≡◌, ℕ, ◌+◌, ◌^◌, ◌<◌, ◌≤◌, true, List, [], ◌∷◌, length, Ok}
use Rattle.fields.specs.Field.{Ops, Points}
use Rattle.circle.specs.Ids.{member, size}
use Rattle.circle.specs.Polynomial.{eval}
use Rattle.circle.specs.declared.kind.Kind.{Kind}
use Rattle.circle.specs.declared.kind.Kind.TheVariants.{Refresh, Dismissal, Change, Admission}
use Rattle.circle.specs.Begin.{begin_answer, begin_tally}
use Rattle.circle.specs.Contribute.{contribute_answer, contribute_round, contribute_tally}
use Rattle.circle.specs.Finish.{finish_answer, finish_table}
use Rattle.circle.specs.Round.{RoundFacts}
use Rattle.circle.specs.State.{Facts}
use Rattle.circle.specs.Table.{entry}

-- what one of the contributors gives: its numbers, place after place
pub record Contribution (K : Type 0) : Type 0 where
  pub id : ℕ
  pub numbers : List K

-- what holds of every circle: its roll is a set of ids, and its threshold is from 2 to the size of the roll
pub record Proper (c : Facts) : Type 0 where
  pub fits : c.roll < 2 ^ 32
  pub low : 2 ≤ c.threshold
  pub high : c.threshold ≤ size c.roll

-- the round after contributions, none of which is denied
abbrev pub round_with : {K : Type 0} → RoundFacts → List (Contribution K) → RoundFacts
round_with r [] = r
round_with r (x ∷ xs) = round_with (contribute_round (Ok tt) r x.id) xs

module _ {K : Type 0} (F : Ops K) (m : Points F) where
  -- the shares of all on the roll, at the place p, lie on the polynomial f
  abbrev pub Lie : ℕ → List K → ℕ → List K → Type 0
  Lie roll table p f = (h : ℕ) → member roll h ≡ true → entry F.zero table p h ≡ eval F f (m.at h)

  -- the tally after contributions, none of which is denied
  abbrev pub tally_with : RoundFacts → List K → List K → List (Contribution K) → List K
  tally_with r table tally [] = tally
  tally_with r table tally (x ∷ xs) =
      tally_with (contribute_round (Ok tt) r x.id) table (contribute_tally F m.at (Ok tt) r x.id x.numbers table tally) xs

  -- none of the contributions is denied, with a table and a tally of these lengths
  abbrev pub Taken : RoundFacts → ℕ → ℕ → List (Contribution K) → Type 0
  Taken r table tally [] = Unit {0}
  Taken r table tally (x ∷ xs) =
      (contribute_answer m.largest r x.id (length x.numbers) table tally ≡ Ok tt)
      × Taken (contribute_round (Ok tt) r x.id) table tally xs

  -- g is f and a polynomial without constant term
  abbrev pub Added : List K → List K → Type 0
  Added f g = (d : List K) × (length d + 1 ≡ length f) × ((x : K) → eval F g x ≡ F.add (eval F f x) (F.mul x (eval F d x)))

  -- what a round of each kind does to f, beyond keeping its constant term
  abbrev pub Made : Kind → List K → List K → Type 0
  Made Refresh f g = Added f g
  Made (Dismissal leaver) f g = Added f g
  Made (Change threshold helpers) f g = Unit {0}
  Made (Admission newcomer helpers) f g = g ≡ f

  -- A round of the kind k leads from a circle and its table to others: where the shares at a place lie on f, of as many
  -- coefficients as the threshold, they then lie on a polynomial of as many as the new threshold, which has the same constant
  -- term. A refresh and a dismissal add a polynomial without constant term, and an admission leaves f as it is, so that the
  -- newcomer's share is the value of f at its point.
  abbrev pub Leads : Kind → Facts → List K → Facts → List K → Type 0
  Leads k c table c' table' =
      Proper c'
      × ((p : ℕ) → p < c.places → (f : List K) → length f ≡ c.threshold → Lie c.roll table p f
      → (g : List K) × (length g ≡ c'.threshold) × (eval F g F.zero ≡ eval F f F.zero) × Made k f g × Lie c'.roll table' p g)

  -- For every circle, every kind of round, any tally to begin with, and all contributions: where neither the beginning nor a
  -- contribution nor the finish is denied, the round leads to the circle that the finish answers, and to the table that it leaves.
  abbrev pub Rounds : Type 0
  Rounds =
      (c : Facts) (k : Kind) (table tally : List K) (xs : List (Contribution K)) (r : RoundFacts) (c' : Facts) → Proper c
      → begin_answer m.largest c k (length tally) ≡ Ok r
      → Taken r (length table) (length tally) xs
      → finish_answer m.largest (round_with r xs) (length table) (length tally) ≡ Ok c'
      → Leads k c table c' (finish_table F m.at (Ok c') (round_with r xs) table (tally_with r table (begin_tally F (Ok r) tally) xs))
