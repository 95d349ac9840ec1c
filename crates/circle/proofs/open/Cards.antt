-- Lists of cards. Assumes nothing.
use Rattle.std.proofs.Common.{◌≡◌, ℕ, zero, suc, ◌+◌, ◌<◌, true, ◌&&◌, eqb, ◌≢◌, List, [], ◌∷◌, map, length, get_or, take, drop, sym, refl, ap, ◌∙◌, arith}
use Rattle.std.specs.List.{AllByRecursion, list_all}
use Rattle.std.proofs.lemmas.List.{at_drop_more, get_or-map, length-map, take-map}
use Rattle.std.proofs.lemmas.List.Folds.{list_all-map}
use Rattle.std.proofs.lemmas.Grind.{common_steps}
use Rattle.std.proofs.lemmas.Bool.{and_parts, and_from, eqb-false, not-true}
use Rattle.circle.specs.Lists.{Distinct}
use Rattle.fields.specs.Field.{Ops}
use Rattle.circle.specs.Ids.{has_point}
use Rattle.circle.specs.Open.{Face, face, faces, id_known, other_id, ids_differ, column}
use Rattle.circle.specs.OpenParts.{ids_of}
use Rattle.circle.specs.Polynomial.{points}
use Rattle.circle.specs.declared.card.Card.{Card}
use Rattle.circle.proofs.Tests.{each_take}

-- ## A card that a loop reads, as it stands among the faces

module _ {K : Type 0} (cards : List (Card K)) (i : ℕ) (within : i < length cards) where
  pub face_within : i < length (faces cards)
  face_within = omega (arith, length-map cards (λ x. face x))

  pub face_read : (x : Card K) → x ≡ get_or cards i x → face x ≡ get_or (faces cards) i (face x)
  face_read x read = ap face read ∙ sym (get_or-map face cards i x (face x) within)

-- ## No id twice

pub differ_take : {K : Type 0} (i : ℕ) (cs : List (Face K)) → ids_differ cs ≡ true → ids_differ (take i cs) ≡ true
differ_take zero cs all = refl
differ_take (suc i) [] all = refl
differ_take (suc i) (x ∷ cs) all =
    let parts = and_parts (list_all (other_id x.id) cs) (ids_differ cs) all in
    and_from (list_all (other_id x.id) (take i cs)) (ids_differ (take i cs))
    (each_take (other_id x.id) i cs parts.0) (differ_take i cs parts.1)

-- where no id stands on two cards, it is so of the first ones
pub differ_first : {K : Type 0} (i : ℕ) (cards : List (Card K)) → ids_differ (faces cards) ≡ true → ids_differ (faces (take i cards)) ≡ true
differ_first i cards all = ap ids_differ (sym (take-map face i cards)) ∙ differ_take i (faces cards) all

-- from the i-th card on
pub differ_at : {K : Type 0} (cards : List (Card K)) (i : ℕ) (d : Card K) → i < length cards
    → ids_differ (faces (drop i cards)) ≡ (list_all (other_id (get_or cards i d).id) (faces (drop (i + 1) cards)) && ids_differ (faces (drop (i + 1) cards)))
differ_at cards i d less = at_drop_more (λ r. ids_differ (faces r)) cards i d less

-- cards that differ have ids that differ
others_differ : {K : Type 0} (id : ℕ) (cs : List (Face K)) → list_all (other_id id) cs ≡ true → AllByRecursion (λ k. id ≢ k) (ids_of cs)
others_differ id [] all = tt
others_differ id (c ∷ cs) all =
    let parts = and_parts (other_id id c) (list_all (other_id id) cs) all in
    ((λ e. eqb-false c.id id (not-true (eqb c.id id) parts.0) (sym e)), others_differ id cs parts.1)

pub distinct_ids : {K : Type 0} (cs : List (Face K)) → ids_differ cs ≡ true → Distinct (ids_of cs)
distinct_ids [] all = tt
distinct_ids (c ∷ cs) all =
    let parts = and_parts (list_all (other_id c.id) cs) (ids_differ cs) all in
    (others_differ c.id cs parts.0, distinct_ids cs parts.1)

-- what a search for the answers of opening lacks
pub ruleset card_steps = (common_steps, list_all-map, differ_first, differ_at)

-- ## Lagrange's sum over cards

module _ {K : Type 0} (F : Ops K) (at : ℕ → K) (p : ℕ) where
  pub column_points : (cs : List (Face K)) → points (column F at p cs) ≡ map at (ids_of cs)
  column_points [] = refl
  column_points (c ∷ cs) = ap (λ r. at c.id ∷ r) (column_points cs)

pub ids_known : {K : Type 0} (largest : ℕ) (cs : List (Face K)) → list_all (has_point largest) (ids_of cs) ≡ list_all (id_known largest) cs
ids_known largest [] = refl
ids_known largest (c ∷ cs) = ap (λ b. has_point largest c.id && b) (ids_known largest cs)
