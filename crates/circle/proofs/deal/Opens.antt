-- Cards as dealt open to the key dealt. Assumes nothing.
use Rattle.std.proofs.Common.{◌≡◌, ℕ, ◌+◌, ◌-◌, ◌*◌, ◌<◌, ◌≤◌, true, leb, List, [], ◌∷◌, map, length, get_or, take, drop, Ok, sym, refl, ap, ◌∙◌, subst, arith, length-take}
use Rattle.std.specs.List.{range_with_len, list_all, AllByRecursion}
use Rattle.std.proofs.lemmas.List.FromFn.{length-map-range_with_len, get_or-map-range_with_len, fill_by_all}
use Rattle.std.proofs.ByRecursion.{All-take, All-drop}
use Rattle.std.proofs.lemmas.List.{length-map}
use Rattle.std.proofs.lemmas.Bool.{and_from, le-leb, le-ltb, eq-eqb, or_from, not_from_true, cond-true, cond-false}
use Rattle.fields.specs.Field.{Ops, FieldLaws, Points, Equality}
use Rattle.fields.proofs.Ring.{ring, forms}
use Rattle.circle.specs.Deal.{dealt, deal_table}
use Rattle.circle.specs.DealLaws.{DealtCard, Opens}
use Rattle.circle.specs.Ids.{member, within_largest, has_point}
use Rattle.circle.specs.Lists.{Distinct}
use Rattle.circle.specs.Open.{Face, id_known, as_long, on_roll, of_epoch, ids_differ, share_at, column, opened, lies_at, lies, open_answer, open_key}
use Rattle.circle.specs.OpenParts.{ids_of}
use Rattle.circle.specs.Polynomial.{eval, polynomial, points, Through, interpolated}
use Rattle.circle.specs.State.{Facts}
use Rattle.circle.specs.Table.{entry, grid, piece}
use Rattle.circle.proofs.Lists.{all_of}
use Rattle.circle.proofs.Tests.{pass_all, each_take}
use Rattle.circle.proofs.deal.Answered.{deal_met}
use Rattle.circle.proofs.ids.Laws.{on_member, within_known}
use Rattle.circle.proofs.ids.Lists.{in_counting}
use Rattle.circle.proofs.open.Cards.{column_points, differ_take, distinct_ids, ids_known}
use Rattle.circle.proofs.polynomial.Laws.{polynomial_laws}
use Rattle.circle.proofs.polynomial.Loops.{points_differ}
use Rattle.circle.proofs.table.Grids.{grid_at}

module _ {K : Type 0} {F : Ops K} (laws : FieldLaws F) (m : Points F) (eq : Equality K)
    (roll t places : ℕ) (key numbers : List K) (known : within_largest roll m.largest ≡ true) (low : 2 ≤ t) where
  -- the circle that is dealt, its table, and its polynomial at the place p
  abbrev c : Facts
  c = record { roll = roll; threshold = t; epoch = 0; places = places }

  abbrev table : List K
  table = grid places (dealt F m.at roll (t - 1) key numbers)

  abbrev f : ℕ → List K
  f p = polynomial F (get_or key p F.zero) (piece (t - 1) numbers p)

  abbrev Own : Face K → Type 0
  Own = DealtCard F c table

  card_known : (x : Face K) → Own x → has_point m.largest x.id ≡ true
  card_known x own =
      and_from (leb 1 x.id) (leb x.id m.largest)
      (le-leb 1 x.id (on_member roll x.id own.0).0) (le-leb x.id m.largest (within_known roll m.largest x.id known own.0))

  card_long : (x : Face K) → Own x → as_long places x ≡ true
  card_long x own =
      eq-eqb (length x.shares) places (ap length own.2 ∙ length-map-range_with_len (λ p. entry F.zero table p x.id) 0 places)

  -- the share is the polynomial's value at the id's point
  card_lies : (x : Face K) → Own x → (p : ℕ) → p < places → share_at F p x ≡ eval F (f p) (m.at x.id)
  card_lies x own p less =
      let high : x.id ≤ 32 = omega (arith, within_known roll m.largest x.id known own.0, m.few) in
      let zero+ : 0 + p ≡ p = omega arith in
      ap (λ s. get_or s p F.zero) own.2
      ∙ get_or-map-range_with_len (λ q. entry F.zero table q x.id) 0 places p p F.zero less zero+
      ∙ grid_at (dealt F m.at roll (t - 1) key numbers) places p x.id F.zero less (on_member roll x.id own.0).0 high
      ∙ cond-true (member roll x.id) (eval F (f p) (m.at x.id)) F.zero own.0

  through : (p : ℕ) → p < places → (cards : List (Face K)) → AllByRecursion Own cards → Through F (f p) (column F m.at p cards)
  through p less [] own = tt
  through p less (x ∷ cards) own = (sym (card_lies x own.0 p less), through p less cards own.1)

  -- ## The first t cards

  module _ (cards : List (Face K)) (enough : t ≤ length cards) (differ : ids_differ cards ≡ true) (own : AllByRecursion Own cards) where
    abbrev first : List (Face K)
    first = take t cards

    all_known : list_all (id_known m.largest) cards ≡ true
    all_known = pass_all Own (id_known m.largest) card_known cards own

    -- they give the polynomial's value anywhere
    value_of : (p : ℕ) (z : K) → p < places → interpolated F (column F m.at p first) z ≡ eval F (f p) z
    value_of p z less =
        let shares = column F m.at p first in
        let ids = ids_known m.largest first ∙ each_take (id_known m.largest) t cards all_known in
        let apart : Distinct (points shares) =
        subst Distinct (sym (column_points F m.at p first)) (points_differ m (ids_of first) ids (distinct_ids first (differ_take t cards differ))) in
        let long : length shares ≡ length first = length-map {B = K × K} first (λ x. (m.at x.id, share_at F p x)) in
        let short : length (f p) ≤ length shares =
        omega (arith, length-take (t - 1) (drop (p * (t - 1)) numbers), length-take t cards) in
        sym ((polynomial_laws laws).lagrange shares (f p) z apart short (through p less first (All-take Own t cards own)))

    later_lie : (x : Face K) → Own x → lies F m.at eq.same places first x ≡ true
    later_lie x mine =
        pass_all (λ p. p < places) (lies_at F m.at eq.same first x)
        (λ p less. (eq.tells _ _).1 (value_of p (m.at x.id) less ∙ sym (card_lies x mine p less)))
        (range_with_len 0 places) (all_of (λ p. p < places) (range_with_len 0 places) (λ p i. omega (arith, (in_counting 0 places p i).1)))

    opens_answer : (n : ℕ) → n ≡ places → open_answer F m.at eq.same m.largest c cards n ≡ Ok tt
    opens_answer n e =
        let long : list_all (as_long places) cards ≡ true = pass_all Own (as_long places) card_long cards own in
        let on : list_all (on_roll roll) cards ≡ true = pass_all Own (on_roll roll) (λ x mine. mine.0) cards own in
        let young : list_all (of_epoch 0) cards ≡ true = pass_all Own (of_epoch 0) (λ x mine. eq-eqb x.epoch 0 mine.1) cards own in
        let lie : list_all (lies F m.at eq.same places first) (drop t cards) ≡ true =
        pass_all Own (lies F m.at eq.same places first) later_lie (drop t cards) (All-drop Own t cards own) in
        cond-false _ _ _ (not_from_true _ all_known)
        ∙ cond-false _ _ _ (or_from _ _ (not_from_true _ long) (not_from_true _ (eq-eqb n places e)))
        ∙ cond-false _ _ _ (not_from_true _ on)
        ∙ cond-false _ _ _ (le-ltb (length cards) t enough)
        ∙ cond-false _ _ _ (not_from_true _ differ)
        ∙ cond-false _ _ _ (not_from_true _ young)
        ∙ cond-false _ _ _ (not_from_true _ lie)

    opens_key : length key ≡ places → map (opened F m.at first) (range_with_len 0 places) ≡ key
    opens_key long =
        sym (fill_by_all (opened F m.at first) key places F.zero long
        (λ p less. sym (value_of p F.zero less ∙ at_zero (get_or key p F.zero) (piece (t - 1) numbers p))))
      where
        at_zero : (k : K) (rest : List K) → eval F (k ∷ rest) F.zero ≡ k
        at_zero k rest = ring laws.ring (k ∷ eval F rest F.zero ∷ []) (search forms depth 9) (search forms depth 9) refl

pub opens : {K : Type 0} {F : Ops K} (laws : FieldLaws F) (m : Points F) (eq : Equality K) → Opens F m eq.same
opens {K} {F} laws m eq roll t places key numbers table c ok cards enough differ own buffer long =
    let met = deal_met m.largest roll t places (length key) (length numbers) (length table) c ok in
    let P : Facts → Type 0 = λ c. AllByRecursion (DealtCard F c (deal_table F m.at (Ok c) key numbers table)) cards
    → (open_answer F m.at eq.same m.largest c cards (length buffer) ≡ Ok tt) × (open_key F m.at (Ok tt) c cards buffer ≡ key) in
    subst P (sym met.is)
    (λ own. (
      opens_answer laws m eq roll t places key numbers met.known met.low cards enough differ own (length buffer) long,
      opens_key laws m eq roll t places key numbers met.known met.low cards enough differ own met.key_length,
    ))
    own
