-- What showing a holder's card answers, and what it leaves in the buffer for the shares. Assumes nothing.
use Rattle.std.specs.Prelude.{ℕ, ◌*◌, cond, not, ◌||◌, List, map, Ok, Err, Result, ◌==◌}
use Rattle.std.specs.List.{range_with_len}
use Rattle.fields.specs.Field.{Ops}
use Rattle.circle.specs.declared.denial.Denial.{Denial}
use Rattle.circle.specs.declared.denial.Denial.TheVariants.{NoSuchId, Length, NotOnRoll}
use Rattle.circle.specs.Ids.{member, has_point}
use Rattle.circle.specs.State.{Facts}
use Rattle.circle.specs.Table.{entry}

-- By the field's largest id, the circle, the id, and the lengths of the table and of the buffer.
abbrev pub show_answer : ℕ → Facts → ℕ → ℕ → ℕ → Result (Unit {0}) Denial
show_answer largest c id table buffer =
    cond (not (has_point largest id)) (Err NoSuchId)
    (cond (not (table == 32 * c.places) || not (buffer == c.places)) (Err Length)
    (cond (not (member c.roll id)) (Err NotOnRoll)
    (Ok tt)))

-- the shares that a table holds for an id, place after place
abbrev pub shares_of : {K : Type 0} → Ops K → List K → ℕ → ℕ → List K
shares_of F table id places = map (λ p. entry F.zero table p id) (range_with_len 0 places)

-- the buffer after showing: a denial leaves it as it was
abbrev pub show_shares : {K : Type 0} → Ops K → Result (Unit {0}) Denial → Facts → ℕ → List K → List K → List K
show_shares F (Ok _) c id table buffer = shares_of F table id c.places
show_shares F (Err d) c id table buffer = buffer
