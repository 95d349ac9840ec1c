-- What dealing answers, and what it leaves in the table. Assumes nothing.
use Rattle.std.specs.Prelude.{ℕ, ◌-◌, ◌*◌, cond, not, ◌||◌, List, Ok, Err, Result, ◌==◌, nat_lt, slice_index_or}
use Rattle.fields.specs.Field.{Ops}
use Rattle.circle.specs.declared.denial.Denial.{Denial}
use Rattle.circle.specs.declared.denial.Denial.TheVariants.{Places, NoSuchId, Threshold, Length}
use Rattle.circle.specs.Ids.{member, size, within_largest}
use Rattle.circle.specs.Polynomial.{eval, polynomial}
use Rattle.circle.specs.State.{Facts}
use Rattle.circle.specs.Table.{grid, piece}

-- By the field's largest id, the numbers handed over, and the lengths of key, random numbers and table.
abbrev pub deal_answer : ℕ → ℕ → ℕ → ℕ → ℕ → ℕ → ℕ → Result Facts Denial
deal_answer largest roll threshold places key numbers table =
    cond (nat_lt places 1 || nat_lt 32 places) (Err Places)
    (cond (not (within_largest roll largest)) (Err NoSuchId)
    (cond (nat_lt threshold 2 || nat_lt (size roll) threshold) (Err Threshold)
    (cond (not (key == places) || (not (numbers == places * (threshold - 1)) || not (table == 32 * places))) (Err Length)
    (Ok (record { roll = roll; threshold = threshold; epoch = 0; places = places })))))

module _ {K : Type 0} (F : Ops K) (at : ℕ → K) where
  -- the share of the id h of the polynomial f: its value at the point of h, and zero off the roll
  abbrev pub share_of : ℕ → ℕ → List K → K
  share_of roll h f = cond (member roll h) (eval F f (at h)) F.zero

  -- the share of h at the place p: the polynomial has the key's element there as constant term, and d random numbers after it
  abbrev pub dealt : ℕ → ℕ → List K → List K → ℕ → ℕ → K
  dealt roll d key numbers p h = share_of roll h (polynomial F (slice_index_or key p F.zero) (piece d numbers p))

  -- the table after dealing: a denial leaves it as it was
  abbrev pub deal_table : Result Facts Denial → List K → List K → List K → List K
  deal_table (Ok c) key numbers table = grid c.places (dealt c.roll (c.threshold - 1) key numbers)
  deal_table (Err d) key numbers table = table
