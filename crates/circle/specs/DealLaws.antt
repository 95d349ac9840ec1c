-- What dealing comes to: the key opens again, and fewer holders than the threshold learn nothing of it. Assumes nothing.
use Rattle.std.specs.Prelude.{◌≡◌, ℕ, ◌^◌, ◌<◌, ◌≤◌, Bool, true, List, [], ◌∷◌, length, Ok}
use Rattle.std.specs.List.{AllByRecursion}
use Rattle.fields.specs.Field.{Ops, Points}
use Rattle.circle.specs.Card.{shares_of}
use Rattle.circle.specs.Deal.{deal_answer, deal_table}
use Rattle.circle.specs.Ids.{member, size}
use Rattle.circle.specs.Open.{Face, ids_differ, open_answer, open_key}
use Rattle.circle.specs.State.{Facts}
use Rattle.circle.specs.Table.{entry}

module _ {K : Type 0} (F : Ops K) where
  -- the sum of two lists of numbers, number by number; it is as long as the first
  abbrev pub plus : List K → List K → List K
  plus [] ys = []
  plus (x ∷ xs) [] = x ∷ xs
  plus (x ∷ xs) (y ∷ ys) = F.add x y ∷ plus xs ys

  -- a holder's card of epoch 0, with the shares that the table holds for it
  abbrev pub DealtCard : Facts → List K → Face K → Type 0
  DealtCard c table card =
      (member c.roll card.id ≡ true) × (card.epoch ≡ 0)
      × (card.shares ≡ shares_of F table card.id c.places)

  module _ (m : Points F) where
    -- For every dealing that is answered with a circle: any cards as dealt, of different holders and no fewer than the
    -- threshold, in any order, open to the key dealt.
    abbrev pub Opens : (K → K → Bool) → Type 0
    Opens same =
        (roll threshold places : ℕ) (key numbers table : List K) (c : Facts)
        → deal_answer m.largest roll threshold places (length key) (length numbers) (length table) ≡ Ok c
        → (cards : List (Face K)) → threshold ≤ length cards → ids_differ cards ≡ true
        → AllByRecursion (DealtCard c (deal_table F m.at (Ok c) key numbers table)) cards
        → (buffer : List K) → length buffer ≡ places
        → (open_answer F m.at same m.largest c cards (length buffer) ≡ Ok tt)
        × (open_key F m.at (Ok tt) c cards buffer ≡ key)

    -- For every two keys, and every set of fewer ids than the threshold, there is a shift of the random numbers, fixed by
    -- these alone. Whatever the numbers are, dealing the second key with the numbers shifted is answered alike, and gives
    -- each id of the set the share that dealing the first key gives it.
    abbrev pub Hides : Type 0
    Hides =
        (roll threshold places : ℕ) (key key' : List K) (chosen : ℕ) → chosen < 2 ^ 32 → size chosen < threshold → length key' ≡ length key
        → (shift : List K)
        × ((numbers table : List K) (c : Facts)
        → deal_answer m.largest roll threshold places (length key) (length numbers) (length table) ≡ Ok c
        → (deal_answer m.largest roll threshold places (length key') (length (plus numbers shift)) (length table) ≡ Ok c)
        × ((p h : ℕ) → p < places → member chosen h ≡ true
        → entry F.zero (deal_table F m.at (Ok c) key' (plus numbers shift) table) p h
        ≡ entry F.zero (deal_table F m.at (Ok c) key numbers table) p h))
