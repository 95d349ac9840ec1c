-- The set of the ids of cards, and Lagrange's sum over cards with the constants of that set. Assumes nothing.
use Rattle.std.proofs.Common.{◌≡◌, ℕ, zero, suc, ◌+◌, ◌<◌, ◌≤◌, true, ◌||◌, eqb, ◌≢◌, ◌⊎◌, List, [], ◌∷◌, ◌++◌, map, length, get_or, take, drop, fold, sym, ap, ◌∙◌, subst, ap₂, inl, inr, arith, take-append-drop}
use Rattle.std.specs.List.{list_all}
use Rattle.std.proofs.lemmas.List.{drop_more, take_more, map-append}
use Rattle.std.proofs.lemmas.Bool.{and_parts, both_ways, or_left, or_right, eq-eqb}
use Rattle.std.proofs.lemmas.Bool.Decides.{eqb_tells}
use Rattle.fields.specs.Field.{Ops, RingLaws, FieldLaws, Points}
use Rattle.circle.specs.Ids.{has_point, member, members, inserted, removed}
use Rattle.circle.specs.Lagrange.{constant_in}
use Rattle.circle.specs.Lists.{In, Distinct}
use Rattle.circle.specs.declared.card.Card.{Card}
use Rattle.circle.specs.Open.{Face, faces, id_known, ids_differ, share_at, column}
use Rattle.circle.specs.OpenParts.{ids_of, set_of}
use Rattle.circle.specs.Polynomial.{constant, points}
use Rattle.circle.proofs.Lists.{all_of, all-at, distinct_middle}
use Rattle.circle.proofs.Tests.{each_in, pass_all}
use Rattle.circle.proofs.ids.Laws.{member_empty, member_inserted, in_members, members_in, members_distinct}
use Rattle.circle.proofs.ids.On.{point_id}
use Rattle.circle.proofs.lagrange.Sets.{others_in, others_back}
use Rattle.circle.proofs.open.Cards.{ids_known, distinct_ids, column_points}
use Rattle.circle.proofs.polynomial.Lagrange.{combine}
use Rattle.circle.proofs.polynomial.Orders.{constant_same, others_distinct, other_in, in_whole}

-- ## Who is in the set

module _ {K : Type 0} (largest : ℕ) (few : largest ≤ 32) where
  -- a set with the ids of cards
  abbrev with_ids : ℕ → List (Face K) → ℕ
  with_ids set cs = fold (λ set c. inserted set c.id) set cs

  kept : (cs : List (Face K)) (set h : ℕ) → list_all (id_known largest) cs ≡ true → member set h ≡ true → member (with_ids set cs) h ≡ true
  kept [] set h known m = m
  kept (c ∷ cs) set h known m =
      let two = and_parts (id_known largest c) (list_all (id_known largest) cs) known in
      kept cs (inserted set c.id) h two.1 (member_inserted set c.id h (point_id largest c.id few two.0) ∙ or_right (eqb h c.id) (member set h) m)

  on_card : (cs : List (Face K)) (set h : ℕ) → list_all (id_known largest) cs ≡ true → In h (ids_of cs) → member (with_ids set cs) h ≡ true
  on_card [] set h known m = absurd m
  on_card (c ∷ cs) set h known (inl e) =
      let two = and_parts (id_known largest c) (list_all (id_known largest) cs) known in
      kept cs (inserted set c.id) h two.1
      (member_inserted set c.id h (point_id largest c.id few two.0) ∙ or_left (eqb h c.id) (member set h) (eq-eqb h c.id e))
  on_card (c ∷ cs) set h known (inr m) =
      on_card cs (inserted set c.id) h (and_parts (id_known largest c) (list_all (id_known largest) cs) known).1 m

  of_card : (cs : List (Face K)) (set h : ℕ) → list_all (id_known largest) cs ≡ true → member (with_ids set cs) h ≡ true
      → (member set h ≡ true) ⊎ In h (ids_of cs)
  of_card [] set h known m = inl m
  of_card (c ∷ cs) set h known m =
      let two = and_parts (id_known largest c) (list_all (id_known largest) cs) known in
      elim (of_card cs (inserted set c.id) h two.1 m) [
        | inl n ↦
            elim (eqb_tells h c.id) [
              | inl e ↦ inr (inl e.1)
              | inr e ↦ inl (ap (λ b. b || member set h) (sym e.0) ∙ sym (member_inserted set c.id h (point_id largest c.id few two.0)) ∙ n)
            ]
        | inr n ↦ inr (inr n)
      ]

  module _ (cs : List (Face K)) (known : list_all (id_known largest) cs ≡ true) where
    in_set : (h : ℕ) → In h (ids_of cs) → In h (members (set_of cs))
    in_set h m =
        let point = each_in (has_point largest) (ids_of cs) (ids_known largest cs ∙ known) h m in
        members_in (set_of cs) h (point_id largest h few point) (on_card cs 0 h known m)

    set_in : (h : ℕ) → In h (members (set_of cs)) → In h (ids_of cs)
    set_in h m =
        elim (of_card cs 0 h known (in_members (set_of cs) h m).1) [
          | inl none ↦ absurd (both_ways (member 0 h) (member_empty h) none)
          | inr n ↦ n
        ]

    -- each member has a point
    pub set_points : list_all (has_point largest) (members (set_of cs)) ≡ true
    set_points =
        pass_all (λ h. In h (ids_of cs)) (has_point largest) (each_in (has_point largest) (ids_of cs) (ids_known largest cs ∙ known))
        (members (set_of cs)) (all_of _ (members (set_of cs)) set_in)

    pub own_member : (h : ℕ) → In h (ids_of cs) → member (set_of cs) h ≡ true
    own_member h m = on_card cs 0 h known m

-- ## The constants of the set

module _ {K : Type 0} {F : Ops K} (laws : FieldLaws F) (m : Points F) (z : K) where
  -- the constant of a card's id is that of its point beside the points of the other cards
  set_constant : (before : List (Face K)) (c : Face K) (after : List (Face K))
      → list_all (id_known m.largest) (before ++ (c ∷ after)) ≡ true → ids_differ (before ++ (c ∷ after)) ≡ true
      → constant_in F m.at (set_of (before ++ (c ∷ after))) c.id z ≡ constant F (map m.at (ids_of before) ++ map m.at (ids_of after)) (m.at c.id) z
  set_constant before c after known differ =
      let cs = before ++ (c ∷ after) in
      let set = set_of cs in
      let left = ids_of before in
      let right = ids_of after in
      let split : ids_of cs ≡ left ++ (c.id ∷ right) = map-append (λ (x : Face K). x.id) before (c ∷ after) in
      let d : Distinct (left ++ (c.id ∷ right)) = subst Distinct split (distinct_ids cs differ) in
      constant_same laws.ring m.at (m.at c.id) z (members (removed set c.id)) (left ++ right)
      (members_distinct (removed set c.id)) (others_distinct left c.id right d)
      (λ h i.
      let o = others_in set c.id h i in
      other_in left c.id right h o.0 (subst (In h) split (set_in m.largest m.few cs known h o.1)))
      (λ h i.
      others_back set c.id h (all-at (λ k. c.id ≢ k) (left ++ right) (distinct_middle left c.id right d) h i)
      (in_set m.largest m.few cs known h (subst (In h) (sym split) (in_whole left c.id right h i))))
      ∙ ap (λ ks. constant F ks (m.at c.id) z) (map-append m.at left right)

  -- one card more of Lagrange's sum at the place p
  pub combine_more : (cs : List (Face K)) (i p : ℕ) (x : Face K) → i < length cs → x ≡ get_or cs i x
      → list_all (id_known m.largest) cs ≡ true → ids_differ cs ≡ true
      → combine F (map m.at (ids_of (take i cs))) (column F m.at p (drop i cs)) z
      ≡ F.add (F.mul (constant_in F m.at (set_of cs) x.id z) (share_at F p x))
      (combine F (map m.at (ids_of (take (i + 1) cs))) (column F m.at p (drop (i + 1) cs)) z)
  combine_more cs i p x less read known differ =
      let before = take i cs in
      let after = drop (i + 1) cs in
      let rest : drop i cs ≡ x ∷ after = drop_more cs i x less ∙ ap {B = List (Face K)} (λ y. y ∷ after) (sym read) in
      let whole : before ++ (x ∷ after) ≡ cs = ap (λ r. before ++ r) (sym rest) ∙ take-append-drop i cs in
      let one : constant_in F m.at (set_of cs) x.id z ≡ constant F (map m.at (ids_of before) ++ points (column F m.at p after)) (m.at x.id) z =
      ap (λ c. constant_in F m.at (set_of c) x.id z) (sym whole)
      ∙ set_constant before x after (rw whole known) (rw whole differ)
      ∙ ap (λ ks. constant F (map m.at (ids_of before) ++ ks) (m.at x.id) z) (sym (column_points F m.at p after)) in
      let longer : map m.at (ids_of (take (i + 1) cs)) ≡ map m.at (ids_of before) ++ (m.at x.id ∷ []) =
      ap (λ c. map m.at (ids_of c)) (take_more cs i x less ∙ ap (λ y. before ++ (y ∷ [])) (sym read))
      ∙ ap (map m.at) (map-append (λ (y : Face K). y.id) before (x ∷ []))
      ∙ map-append m.at (ids_of before) (x.id ∷ []) in
      ap (λ c. combine F (map m.at (ids_of before)) (column F m.at p c) z) rest
      ∙ ap₂ (λ w ks. F.add (F.mul w (share_at F p x)) (combine F ks (column F m.at p after) z)) (sym one) (sym longer)

-- a sum with one term more, where the terms that are left had it first
pub sum_more : {K : Type 0} {F : Ops K} (ring : RingLaws F) (sum new term after before whole : K) → new ≡ F.add sum term → before ≡ F.add term after
    → F.add sum before ≡ whole → F.add new after ≡ whole
sum_more {K} {F} ring sum new term after before whole added left so_far =
    ap (λ x. F.add x after) added ∙ ring.add_assoc sum term after ∙ ap (F.add sum) (sym left) ∙ so_far

-- a card that a loop reads has one of the cards' ids
pub id_at : {K : Type 0} (cards : List (Card K)) (i : ℕ) → i < length cards → (x : Card K) → x ≡ get_or cards i x → In x.id (ids_of (faces cards))
id_at [] i less x read = absurd (omega arith)
id_at (c ∷ cards) zero less x read = inl (ap (λ (y : Card _). y.id) read)
id_at (c ∷ cards) (suc i) less x read = inr (id_at cards i (omega arith) x read)

-- and that id stands there
pub id_read : {K : Type 0} (cards : List (Card K)) (i : ℕ) → i < length cards → (x : Card K) → x ≡ get_or cards i x → x.id ≡ get_or (ids_of (faces cards)) i 0
id_read [] i less x read = absurd (omega arith)
id_read (c ∷ cards) zero less x read = ap (λ (y : Card _). y.id) read
id_read (c ∷ cards) (suc i) less x read = id_read cards i (omega arith) x read
