-- What the parts of opening's code come to. Nothing here is needed to know what opening promises. Assumes nothing.
use Rattle.std.specs.Prelude.{◌≡◌, ℕ, ◌<◌, ◌≤◌, true, List, map, length, fold, slice_index, slice_index_or}
use Rattle.std.specs.List.{list_all}
use Rattle.fields.specs.Field.{Ops}
use Rattle.circle.specs.Ids.{inserted}
use Rattle.circle.specs.Lagrange.{constant_in}
use Rattle.circle.specs.Open.{Face, id_known, as_long, ids_differ}

-- the ids of cards
abbrev pub ids_of : {K : Type 0} → List (Face K) → List ℕ
ids_of cards = map (λ c. c.id) cards

-- the set of them
abbrev pub set_of : {K : Type 0} → List (Face K) → ℕ
set_of cards = fold (λ set c. inserted set c.id) 0 cards

-- cards, with the set of their ids, that fix a polynomial at each of so many places
pub record Fixing {K : Type 0} (largest places set : ℕ) (cards : List (Face K)) : Type 0 where
  pub few : places ≤ 32
  pub most : length cards ≤ 32
  pub is : set ≡ set_of cards
  pub known : list_all (id_known largest) cards ≡ true
  pub differ : ids_differ cards ≡ true
  pub long : list_all (as_long places) cards ≡ true

-- a row with Lagrange's constants of a set of ids for the value at z, in the order in which the ids are listed
abbrev pub Constants : {K : Type 0} (F : Ops K) (at : ℕ → K) (set : ℕ) (ids : List ℕ) (z : K) (row : List K) → Type 0
Constants F at set ids z row = (i : ℕ) → i < length ids → slice_index_or row i F.zero ≡ constant_in F at set (slice_index ids i) z
