-- Lagrange's constants of a set of ids. Assumes nothing.
use Rattle.std.specs.Prelude.{ℕ, map}
use Rattle.fields.specs.Field.{Ops}
use Rattle.circle.specs.Ids.{members, removed}
use Rattle.circle.specs.Polynomial.{constant}

-- the constant of the id i at z: the product of (z - k) / (s - k), s the point of i, over the points k of the other ids of the set
abbrev pub constant_in : {K : Type 0} → Ops K → (ℕ → K) → ℕ → ℕ → K → K
constant_in F at set i z = constant F (map at (members (removed set i))) (at i) z
