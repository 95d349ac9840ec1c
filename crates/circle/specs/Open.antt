-- What opening answers, and what it leaves in the key buffer. Assumes nothing.
use Rattle.std.specs.Prelude.{ℕ, Bool, true, cond, not, ◌&&◌, ◌||◌, List, [], ◌∷◌, map, length, take, drop, Ok, Err, Result, ◌==◌, nat_lt, slice_index_or}
use Rattle.std.specs.List.{range_with_len, list_all}
use Rattle.fields.specs.Field.{Ops}
use Rattle.circle.specs.declared.card.Card.{Card}
use Rattle.circle.specs.declared.denial.Denial.{Denial}
use Rattle.circle.specs.declared.denial.Denial.TheVariants.{NoSuchId, Length, NotOnRoll, TooFewCards, IdTwice, OtherEpoch, OffPolynomial}
use Rattle.circle.specs.Ids.{member, has_point}
use Rattle.circle.specs.Polynomial.{interpolated}
use Rattle.circle.specs.State.{Facts}

-- what stands on a card
pub record Face (K : Type 0) : Type 0 where
  pub id : ℕ
  pub epoch : ℕ
  pub shares : List K

abbrev pub face : {K : Type 0} → Card K → Face K
face c = record { id = c.id; epoch = c.epoch; shares = c.shares.now }

abbrev pub faces : {K : Type 0} → List (Card K) → List (Face K)
faces cards = map face cards

-- ## Tests of a card

-- its id has a point in the field
abbrev pub id_known : {K : Type 0} → ℕ → Face K → Bool
id_known largest c = has_point largest c.id

-- it has one share for each place
abbrev pub as_long : {K : Type 0} → ℕ → Face K → Bool
as_long places c = length c.shares == places

-- its id is on the roll
abbrev pub on_roll : {K : Type 0} → ℕ → Face K → Bool
on_roll roll c = member roll c.id

-- it is of the epoch
abbrev pub of_epoch : {K : Type 0} → ℕ → Face K → Bool
of_epoch epoch c = c.epoch == epoch

-- it has another id
abbrev pub other_id : {K : Type 0} → ℕ → Face K → Bool
other_id id c = not (c.id == id)

-- no id stands on two cards
abbrev pub ids_differ : {K : Type 0} → List (Face K) → Bool
ids_differ [] = true
ids_differ (c ∷ cs) = list_all (other_id c.id) cs && ids_differ cs

-- ## The polynomials through cards

module _ {K : Type 0} (F : Ops K) where
  -- the share at the place p
  abbrev pub share_at : ℕ → Face K → K
  share_at p c = slice_index_or c.shares p F.zero

  module _ (at : ℕ → K) where
    -- points and shares at the place p
    abbrev pub column : ℕ → List (Face K) → List (K × K)
    column p cards = map (λ c. (at c.id, share_at p c)) cards

    -- the key at the place p: the sum of shares times constants at zero
    abbrev pub opened : List (Face K) → ℕ → K
    opened cards p = interpolated F (column p cards) F.zero

    module _ (same : K → K → Bool) where
      -- the card's share at the place p is the value of the polynomial through the first cards
      abbrev pub lies_at : List (Face K) → Face K → ℕ → Bool
      lies_at first c p = same (interpolated F (column p first) (at c.id)) (share_at p c)

      -- at every place
      abbrev pub lies : ℕ → List (Face K) → Face K → Bool
      lies places first c = list_all (lies_at first c) (range_with_len 0 places)

      -- By the field's largest id, the circle, the cards, and the key buffer's length.
      abbrev pub open_answer : ℕ → Facts → List (Face K) → ℕ → Result (Unit {0}) Denial
      open_answer largest c cards key =
          cond (not (list_all (id_known largest) cards)) (Err NoSuchId)
          (cond (not (list_all (as_long c.places) cards) || not (key == c.places)) (Err Length)
          (cond (not (list_all (on_roll c.roll) cards)) (Err NotOnRoll)
          (cond (nat_lt (length cards) c.threshold) (Err TooFewCards)
          (cond (not (ids_differ cards)) (Err IdTwice)
          (cond (not (list_all (of_epoch c.epoch) cards)) (Err OtherEpoch)
          (cond (not (list_all (lies c.places (take c.threshold cards)) (drop c.threshold cards))) (Err OffPolynomial)
          (Ok tt)))))))

    -- the key buffer after opening: a denial leaves it as it was
    abbrev pub open_key : Result (Unit {0}) Denial → Facts → List (Face K) → List K → List K
    open_key (Ok _) c cards key = map (opened (take c.threshold cards)) (range_with_len 0 c.places)
    open_key (Err d) c cards key = key
