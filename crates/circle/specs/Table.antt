-- A table of 32 elements a place, as one list: the id h, from 1, at the place p, from 0, stands at 32 p + h - 1.
-- `grid` is shut, and proofs/table/Grids.antt has what a proof may know of it. Assumes nothing.
use Rattle.std.specs.Prelude.{ℕ, ◌+◌, ◌-◌, ◌*◌, ◌/◌, ◌%◌, cond, List, map, length, take, drop, replicate, slice_index_or}
use Rattle.std.specs.List.{range_with_len}
use Rattle.fields.specs.Field.{Ops}
use Rattle.circle.specs.Ids.{member}

-- the position of the id h at the place p
abbrev pub spot : ℕ → ℕ → ℕ
spot p h = 32 * p + h - 1

-- what a table holds for the id h at the place p
abbrev pub entry : {K : Type 0} → K → List K → ℕ → ℕ → K
entry z table p h = slice_index_or table (spot p h) z

-- a function of place and id, as one of the position
abbrev pub by_place : {K : Type 0} → (ℕ → ℕ → K) → ℕ → K
by_place f k = f (k / 32) (k % 32 + 1)

-- the table of n places that holds f p h for the id h at the place p
unfoldable pub grid : {K : Type 0} → ℕ → (ℕ → ℕ → K) → List K
grid n f = map (by_place f) (range_with_len 0 (32 * n))

-- the numbers of the place p, of which each place has d
abbrev pub piece : {K : Type 0} → ℕ → List K → ℕ → List K
piece d xs p = take d (drop (p * d) xs)

-- x for the ids of the set, and zero for all others
abbrev pub only : {K : Type 0} → Ops K → ℕ → ℕ → K → K
only F set h x = cond (member set h) x F.zero

-- zeros in place of what was there
abbrev pub cleared : {K : Type 0} → Ops K → List K → List K
cleared F xs = replicate (length xs) F.zero
