-- Worked examples, in the definitions that the calls use. Assumes nothing.
use Rattle.std.specs.Prelude.{◌≡◌, ℕ, List, [], ◌∷◌, map, length, take, replicate, Ok}
use Rattle.std.specs.List.{range_with_len}
use Rattle.fields.specs.Modulus.{Chosen, chosen_13, chosen_41, chosen_257, prime_ops, prime_points, prime_forms, positive}
use Rattle.fields.specs.Residue.{residue}
use Rattle.fields.specs.ResidueLaws.{equality}
use Rattle.fields.specs.declared.residue.Residue.{Residue}
use Rattle.circle.specs.Deal.{deal_answer, deal_table}
use Rattle.circle.specs.Open.{Face, open_answer, open_key}
use Rattle.circle.specs.Polynomial.{constant_of}
use Rattle.circle.specs.State.{Facts}

module _ {p : ℕ} (field : Chosen p) where
  -- elements by their numbers, and back
  abbrev pub elements : List ℕ → List (Residue p)
  elements ns = map (residue p (positive p field)) ns

  abbrev pub numbers : List (Residue p) → List ℕ
  numbers xs = map (λ x. x.value) xs

  -- the shares of the ids 1 to t that dealing one place to just these gives
  abbrev pub shares : ℕ → ℕ → List ℕ → List ℕ → List ℕ
  shares roll t key ns =
      numbers (take t
      (deal_table (prime_ops p field) (prime_points p field).at
      (deal_answer field.largest roll t 1 (length key) (length ns) 32) (elements key) (elements ns) (elements (replicate 32 0))))

  -- a card of epoch 0 with one share
  abbrev pub card : ℕ → ℕ → Face (Residue p)
  card id share = record { id = id; epoch = 0; shares = elements (share ∷ []) }

pub record Examples : Type 0 where
  -- modulo 41, threshold 3: the key 3 with the numbers 2 and 1 gives the shares 6, 11 and 18
  pub dealt_41 : shares chosen_41 7 3 (3 ∷ []) (2 ∷ 1 ∷ []) ≡ 6 ∷ 11 ∷ 18 ∷ []
  -- modulo 13, threshold 4: the key 3 with the numbers 4, 7 and 5 gives the shares 6, 1, 5 and 9
  pub dealt_13 : shares chosen_13 15 4 (3 ∷ []) (4 ∷ 7 ∷ 5 ∷ []) ≡ 6 ∷ 1 ∷ 5 ∷ 9 ∷ []
  -- modulo 257, threshold 2: the key 255 with the number 1 gives the shares 256, in bytes 01 00, and 0, in bytes 00 00
  pub dealt_257 : shares chosen_257 3 2 (255 ∷ []) (1 ∷ []) ≡ 256 ∷ 0 ∷ []
  pub bytes_257 : map (prime_forms 257 chosen_257).bytes (elements chosen_257 (256 ∷ 0 ∷ [])) ≡ (1 ∷ 0 ∷ []) ∷ (0 ∷ 0 ∷ []) ∷ []
  -- modulo 41: the ids 2, 3 and 4 have the constants 6, 33 and 3 at zero, and their cards with the shares 11, 18 and 27 open to 3
  pub constants_41 : numbers chosen_41
      (map (constant_of (prime_ops 41 chosen_41) (elements chosen_41 (2 ∷ 3 ∷ 4 ∷ [])) (prime_ops 41 chosen_41).zero) (range_with_len 0 3))
      ≡ 6 ∷ 33 ∷ 3 ∷ []
  pub opened_41 : (let cards = card chosen_41 2 11 ∷ card chosen_41 3 18 ∷ card chosen_41 4 27 ∷ [] in
      let c : Facts = record { roll = 15; threshold = 3; epoch = 0; places = 1 } in
      let at = (prime_points 41 chosen_41).at in
      (open_answer (prime_ops 41 chosen_41) at (equality 41).same 32 c cards 1 ≡ Ok tt)
      × (numbers chosen_41 (open_key (prime_ops 41 chosen_41) at (Ok tt) c cards (elements chosen_41 (0 ∷ []))) ≡ 3 ∷ []))
