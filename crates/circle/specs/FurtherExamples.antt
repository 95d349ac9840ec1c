-- Worked examples of bytes and of rounds, in the definitions that the calls use. Assumes nothing.
use Rattle.std.specs.Prelude.{◌≡◌, ℕ, ◌-◌, List, [], ◌∷◌, ◌++◌, map, length, take, replicate, Ok}
use Rattle.fields.specs.Byte.{byte_of, byte_ops}
use Rattle.fields.specs.ByteField.{byte_points}
use Rattle.fields.specs.Field.{Ops, Points}
use Rattle.fields.specs.Modulus.{Chosen, chosen_13, chosen_41, prime_ops, prime_points, positive}
use Rattle.fields.specs.Residue.{residue}
use Rattle.fields.specs.declared.byte.Byte.{Byte}
use Rattle.fields.specs.declared.residue.Residue.{Residue}
use Rattle.circle.specs.declared.kind.Kind.{Kind}
use Rattle.circle.specs.declared.kind.Kind.TheVariants.{Refresh, Change, Admission}
use Rattle.circle.specs.Begin.{begin_answer}
use Rattle.circle.specs.Deal.{deal_answer, deal_table}
use Rattle.circle.specs.Finish.{finish_answer, finish_table}
use Rattle.circle.specs.Lagrange.{constant_in}
use Rattle.circle.specs.Round.{RoundFacts, after}
use Rattle.circle.specs.RoundLaws.{Contribution, Taken, round_with, tally_with}
use Rattle.circle.specs.State.{Facts}

-- a field whose elements are written as numbers
pub record Written (K : Type 0) : Type 0 where
  pub ops : Ops K
  pub points : Points ops
  pub element : ℕ → K
  pub number : K → ℕ

abbrev pub prime : (p : ℕ) → Chosen p → Written (Residue p)
prime p c = record {
  ops = prime_ops p c;
  points = prime_points p c;
  element = residue p (positive p c);
  number = λ x. x.value;
}

abbrev pub z13 : Written (Residue 13)
z13 = prime 13 chosen_13

abbrev pub z41 : Written (Residue 41)
z41 = prime 41 chosen_41

abbrev pub byte : Written Byte
byte = record { ops = byte_ops; points = byte_points; element = byte_of; number = λ x. x.value }

module _ {K : Type 0} (w : Written K) where
  abbrev pub elements : List ℕ → List K
  elements ns = map w.element ns

  abbrev pub numbers : List K → List ℕ
  numbers xs = map w.number xs

  -- the table of one place that holds these for the ids from 1 on, and zeros after them
  abbrev pub table_of : List ℕ → List K
  table_of ns = elements (ns ++ replicate (32 - length ns) 0)

  -- the shares of the ids 1 to n that dealing one place to just these gives, with the threshold t
  abbrev pub shares : ℕ → ℕ → ℕ → List ℕ → List ℕ → List ℕ
  shares n roll t key ns =
      numbers (take n
      (deal_table w.ops w.points.at
      (deal_answer w.points.largest roll t 1 (length key) (length ns) 32) (elements key) (elements ns) (table_of [])))

  -- what the id gives
  abbrev pub gives : ℕ → List ℕ → Contribution K
  gives id ns = record { id = id; numbers = elements ns }

  -- the constants of the ids of a set at z
  abbrev pub constants : ℕ → List ℕ → K → List ℕ
  constants set ids z = numbers (map (λ i. constant_in w.ops w.points.at set i z) ids)

  -- A round over one place with the shares of the ids 1 to n: none of its calls is denied, and it leaves these tallies and,
  -- for the ids 1 to n', these shares.
  abbrev pub RoundOf : Facts → Kind → List ℕ → List (Contribution K) → List ℕ → List ℕ → Type 0
  RoundOf c k old xs tallies new =
      let r : RoundFacts = record { circle = c; kind = k; contributed = 0 } in
      let last = round_with r xs in
      let tally = tally_with w.ops w.points r (table_of old) (table_of []) xs in
      (begin_answer w.points.largest c k 32 ≡ Ok r)
      × Taken w.ops w.points r 32 32 xs
      × (numbers (take (length tallies) tally) ≡ tallies)
      × (finish_answer w.points.largest last 32 32 ≡ Ok (after last))
      × (numbers (take (length new) (finish_table w.ops w.points.at (Ok (after last)) last (table_of old) tally)) ≡ new)

-- a circle of one place at epoch 0
abbrev pub circle : ℕ → ℕ → Facts
circle roll t = record { roll = roll; threshold = t; epoch = 0; places = 1 }

pub record FurtherExamples : Type 0 where
  -- bytes: 57 times 83 is c1, the inverse of 03 is f6
  pub product_byte : byte_ops.mul (byte_of 0x57) (byte_of 0x83) ≡ byte_of 0xc1
  pub inverse_byte : byte_ops.inv (byte_of 0x03) ≡ byte_of 0xf6
  -- bytes, threshold 2: the key 57 with the number 83 gives the shares d4, 4a and c9
  pub dealt_byte : shares byte 3 7 2 (0x57 ∷ []) (0x83 ∷ []) ≡ 0xd4 ∷ 0x4a ∷ 0xc9 ∷ []
  -- modulo 41: the holders 1, 2 and 3 admit 4; their constants at its point are 1, 38 and 3, their tallies 6, 12 and 9, its share 27
  pub helpers_41 : constants z41 7 (1 ∷ 2 ∷ 3 ∷ []) (z41.points.at 4) ≡ 1 ∷ 38 ∷ 3 ∷ []
  pub admitted_41 : RoundOf z41 (circle 7 3) (Admission 4 7) (6 ∷ 11 ∷ 18 ∷ [])
      (gives z41 1 (1 ∷ 2 ∷ []) ∷ gives z41 2 (1 ∷ 5 ∷ []) ∷ gives z41 3 (4 ∷ 5 ∷ []) ∷ []) (6 ∷ 12 ∷ 9 ∷ []) (6 ∷ 11 ∷ 18 ∷ 27 ∷ [])
  -- modulo 41: those four change to the threshold 2, by 1, 2 and 3 giving 5, 2 and 1: the shares are 13, 23, 33 and 2
  pub changed_41 : RoundOf z41 (circle 15 3) (Change 2 7) (6 ∷ 11 ∷ 18 ∷ 27 ∷ [])
      (gives z41 1 (5 ∷ []) ∷ gives z41 2 (2 ∷ []) ∷ gives z41 3 (1 ∷ []) ∷ []) (13 ∷ 23 ∷ 33 ∷ 2 ∷ []) (13 ∷ 23 ∷ 33 ∷ 2 ∷ [])
  -- modulo 13: a refresh of the shares 6, 1, 5 and 9 has the tallies 3, 9, 9 and 3, and gives the shares 9, 6, 6 and 8
  pub refreshed_13 : RoundOf z13 (circle 15 4) Refresh (6 ∷ 1 ∷ 5 ∷ 9 ∷ [])
      (gives z13 1 (1 ∷ 1 ∷ 1 ∷ []) ∷ gives z13 2 (1 ∷ 0 ∷ 4 ∷ []) ∷ gives z13 3 (2 ∷ 1 ∷ 5 ∷ []) ∷ gives z13 4 (0 ∷ 0 ∷ 0 ∷ []) ∷ [])
      (3 ∷ 9 ∷ 9 ∷ 3 ∷ []) (9 ∷ 6 ∷ 6 ∷ 8 ∷ [])
