-- A walk over the cards of a line, with their places. Assumes nothing.
use Rattle.std.proofs.Common.{◌≡◌, ℕ, ◌+◌, ◌≤◌, ltb, leb, List, [], ◌∷◌, ◌++◌, map, length, get_or, take, drop, Some, sym, ap, ◌∙◌, append_assoc, arith, length-drop, length-take}
use Rattle.std.proofs.lemmas.List.{length-map, take-map, drop-map, drop-drop, drop-take, map-append}
use Rattle.std.proofs.lemmas.Bool.{and_parts, leb-true}
use Rattle.fields.specs.Field.{Ops, Points, Finite}
use Rattle.circle.specs.Open.{Face, face, faces}
use Rattle.circle.specs.declared.card.Card.{Card}
use Rattle.station.specs.Desk.{element_of, elements, face_of}
use Rattle.script.specs.Grammar.{split, before, is_slash, value, values, part}
use Rattle.script.specs.Steps.{Stated, in_range, is_lone_id, stated, cards, card_section, next_card}
use Rattle.script.specs.declared.grammar.Token.{Token}
use Rattle.script.proofs.grammar.Laws.{part_values, first-is, first_long}
use Rattle.script.proofs.steps.Laws.{next_some}

-- the numbers of a card are those after its slash
section_is : (ts : List Token) → card_section ts ≡ values (take (length (card_section ts)) (drop 1 ts))
section_is ts =
    let us = drop 1 ts in
    let whole : card_section ts ≡ values (take (before is_slash us) us) = part_values (split is_slash us) 0 ∙ ap values (first-is is_slash us) in
    let long : length (card_section ts) ≡ before is_slash us =
    ap length (part_values (split is_slash us) 0) ∙ length-map (part (split is_slash us) 0) value ∙ first_long is_slash us in
    whole ∙ ap (λ n. values (take n us)) (sym long)

-- the shares of the next card, and what comes after it, by their places
pub card_spot : (ts : List Token) (card : Stated) (more : List Token) → Some (card, more) ≡ next_card ts
    → (3 + length card.shares ≤ length ts)
    × (card.shares ≡ values (take (length card.shares) (drop 3 ts)))
    × (more ≡ drop (3 + length card.shares) ts)
card_spot ts card more found =
    let is = next_some ts card more found in
    let s = card_section ts in
    let us = drop 1 ts in
    let n = length card.shares in
    let tests = and_parts (in_range 2 1025 (length s)) (is_lone_id (get_or s 0 0)) is.1 in
    let two : 2 ≤ length s = leb-true 2 (length s) (and_parts (leb 2 (length s)) (ltb (length s) 1025) tests.0).0 in
    let shares : card.shares ≡ drop 2 s = ap (λ (c : Stated). c.shares) is.2 in
    let count : length s ≡ 2 + n = omega (arith, ap length shares, length-drop 2 s) in
    let fits : length s ≤ length us =
    omega (arith, ap length (section_is ts), length-map (take (length s) us) value, length-take (length s) us) in
    let all : 1 + length s ≡ 3 + n = omega arith in (
      omega (arith, length-drop 1 ts),
      shares
          ∙ ap (drop 2) (section_is ts ∙ ap (λ k. values (take k us)) count)
          ∙ drop-map value 2 (take (2 + n) us)
          ∙ ap values (drop-take 2 n us ∙ ap (take n) (drop-drop 2 1 ts)),
      is.3 ∙ drop-drop (length s) 1 ts ∙ ap (λ k. drop k ts) all,
    )

-- ## The loop over the cards: `xs` are the elements of the tokens `ts` that are left

module _ {K : Type 0} (F : Ops K) (fin : Finite K) (m : Points F) where
  abbrev shown : List Stated → List (Face K)
  shown cs = map (face_of F fin m) cs

  -- a part of the elements
  part_elements : (n k : ℕ) (ts : List Token) → take n (drop k (elements F fin (values ts))) ≡ elements F fin (values (take n (drop k ts)))
  part_elements n k ts =
      let element = element_of F fin in
      ap (take n) (drop-map element k (values ts) ∙ ap (map element) (drop-map value k ts))
      ∙ take-map element n (values (drop k ts))
      ∙ ap (map element) (take-map value n (drop k ts))

  module _ (ts : List Token) (xs : List K) (named : xs ≡ elements F fin (values ts)) (card : Stated) (more : List Token) (found : Some (card, more) ≡ next_card ts) where
    abbrev n : ℕ
    n = length card.shares

    -- slash, id and epoch, and then the shares
    pub card_within : 3 + n ≤ length xs
    card_within =
        omega (arith, (card_spot ts card more found).0, ap length named, length-map (values ts) (element_of F fin), length-map ts value)

    pub card_shares : take n (drop 3 xs) ≡ elements F fin card.shares
    card_shares =
        ap (λ l. take n (drop 3 l)) named
        ∙ part_elements n 3 ts
        ∙ ap (elements F fin) (sym (card_spot ts card more found).1)

    pub card_left : drop n (drop 3 xs) ≡ elements F fin (values more)
    card_left =
        let element = element_of F fin in
        drop-drop n 3 xs
        ∙ ap (drop (3 + n)) named
        ∙ drop-map element (3 + n) (values ts)
        ∙ ap (map element) (drop-map value (3 + n) ts ∙ ap values (sym (card_spot ts card more found).2))

    -- one card more
    pub cards_more : (old now : List (Card K)) (x : Card K) (whole : List (Face K))
        → now ≡ old ++ x ∷ [] → face x ≡ face_of F fin m card → map stated (cards ts) ≡ card ∷ map stated (cards more)
        → faces old ++ shown (map stated (cards ts)) ≡ whole → faces now ++ shown (map stated (cards more)) ≡ whole
    cards_more old now x whole pushed new next so_far =
        let rest = shown (map stated (cards more)) in
        ap (λ l. faces l ++ rest) pushed
        ∙ ap (λ l. l ++ rest) (map-append face old (x ∷ []))
        ∙ append_assoc (faces old) (face x ∷ []) rest
        ∙ ap (λ f. faces old ++ f ∷ rest) new
        ∙ ap (λ cs. faces old ++ shown cs) (sym next)
        ∙ so_far
