-- Sets of holder ids. An id is a number from 1 to 32. A set of ids is a number below 2 ^ 32, whose bit h - 1 tells whether h is in it. Assumes nothing.
use Rattle.std.specs.Prelude.{◌≡◌, ℕ, ◌+◌, ◌-◌, ◌/◌, ◌%◌, ◌^◌, ◌<◌, ◌≤◌, Bool, true, false, cond, not, ◌&&◌, ◌||◌, List, [], ◌∷◌, ◌++◌, length, Some, Decides, filter, Option, MatchOption, ◌==◌, count_ones, nat_le, nat_lt}
use Rattle.std.specs.List.{slice_get, range_with_len, list_all, AllByRecursion}
use Rattle.std.specs.Iterator.{Yields}
use Rattle.circle.specs.Lists.{In, Distinct}

-- h is an id
abbrev pub is_id : ℕ → Bool
is_id h = nat_lt 0 h && nat_le h 32

-- h is an id that has a point in a field of this largest id
abbrev pub has_point : ℕ → ℕ → Bool
has_point largest h = nat_le 1 h && nat_le h largest

-- the ids, ascending
unfoldable pub ids : List ℕ
ids = range_with_len 1 32

-- h is in the set. 0 is in none
abbrev pub member : ℕ → ℕ → Bool
member set h = nat_lt 0 h && (set / 2 ^ (h - 1) % 2) == 1

-- the set with the id h. What is no id leaves it as it is
abbrev pub inserted : ℕ → ℕ → ℕ
inserted set h = cond (is_id h && not (member set h)) (set + 2 ^ (h - 1)) set

-- the set without h
abbrev pub removed : ℕ → ℕ → ℕ
removed set h = cond (member set h) (set - 2 ^ (h - 1)) set

-- the ids in the set, ascending. Shut, as `ids` is, so that no proof computes with 32 cases
unfoldable pub members : ℕ → List ℕ
members set = filter (member set) ids

-- how many ids are in the set
abbrev pub size : ℕ → ℕ
size set = count_ones set

-- how many ids of the set are below h
abbrev pub rank : ℕ → ℕ → ℕ
rank set h = size (set % 2 ^ (h - 1))

-- no id of the set is above the largest
abbrev pub within_largest : ℕ → ℕ → Bool
within_largest set largest = (set / 2 ^ largest) == 0

-- every id of the set a is in the set b
abbrev pub subset : ℕ → ℕ → Bool
subset a b = list_all (member b) (members a)

-- one step through the ids of a set, ascending: its lowest id comes, and those after it are left; or none comes, where the set has none
abbrev pub Stepped : ℕ → Option ℕ → ℕ → Type 0
Stepped set r left = MatchOption r (members set ≡ []) (λ h. members set ≡ h ∷ members left)

-- each number of the list is below all that follow it
abbrev pub Ascends : List ℕ → Type 0
Ascends [] = Unit {0}
Ascends (x ∷ xs) = AllByRecursion (λ y. x < y) xs × Ascends xs

-- The laws of sets of ids.
pub record SetLaws : Type 0 where
  -- a set with h has h, and what it had; a set without h has what it had, but not h
  pub member_inserted : (set h k : ℕ) → is_id h ≡ true → member (inserted set h) k ≡ (k == h || member set k)
  pub member_removed : (set h k : ℕ) → member (removed set h) k ≡ (not (k == h) && member set k)
  -- one id more, one id less
  pub size_inserted : (set h : ℕ) → is_id h ≡ true → member set h ≡ false → size (inserted set h) ≡ size set + 1
  pub size_removed : (set h : ℕ) → member set h ≡ true → size set ≡ size (removed set h) + 1
  -- both are sets again
  pub inserted_fits : (set h : ℕ) → set < 2 ^ 32 → inserted set h < 2 ^ 32
  pub removed_fits : (set h : ℕ) → set < 2 ^ 32 → removed set h < 2 ^ 32
  -- what a set has are ids, and sets that have the same are the same
  pub member_id : (set h : ℕ) → set < 2 ^ 32 → member set h ≡ true → is_id h ≡ true
  pub set_≡ : (a b : ℕ) → a < 2 ^ 32 → b < 2 ^ 32 → ((h : ℕ) → is_id h ≡ true → member a h ≡ member b h) → a ≡ b
  -- the list of the members: each of them and nothing else, ascending, none twice, as many as the size says
  pub in_members : (set h : ℕ) → In h (members set) → (is_id h ≡ true) × (member set h ≡ true)
  pub members_in : (set h : ℕ) → is_id h ≡ true → member set h ≡ true → In h (members set)
  pub members_ascend : (set : ℕ) → Ascends (members set)
  pub members_distinct : (set : ℕ) → Distinct (members set)
  pub members_size : (set : ℕ) → set < 2 ^ 32 → length (members set) ≡ size set
  -- a member stands among them behind those that are below it
  pub member_rank : (set h : ℕ) → set < 2 ^ 32 → member set h ≡ true → slice_get (members set) (rank set h) ≡ Some h
  pub rank_below : (set h : ℕ) → set < 2 ^ 32 → member set h ≡ true → rank set h < size set
  -- what steps through a set gave, and what is left, are its members
  pub visited : (set left : ℕ) (xs : List ℕ) → Yields Stepped set xs left → members set ≡ xs ++ members left
  -- a part of a set has only what the set has
  pub subset_decides : (a b : ℕ) → Decides (subset a b) ((h : ℕ) → is_id h ≡ true → member a h ≡ true → member b h ≡ true)
  -- no id is above the largest, and only then
  pub within_known : (set largest h : ℕ) → within_largest set largest ≡ true → member set h ≡ true → h ≤ largest
  pub known_within : (set largest : ℕ) → set < 2 ^ 32 → ((h : ℕ) → is_id h ≡ true → member set h ≡ true → h ≤ largest)
      → within_largest set largest ≡ true
