-- Laws of the tests on sections, and a walk over the cards of a line.
use Rattle.std.proofs.Common.{◌≡◌, ℕ, suc, ◌<◌, ◌≤◌, Bool, true, false, cond, not, ◌&&◌, ◌||◌, eqb, ltb, List, [], ◌∷◌, map, length, get_or, take, drop, Some, None, Option, sym, refl, ap, ◌∙◌, inl, inr, arith, length-drop, true≢false}
use Rattle.std.proofs.lemmas.List.{drop-map, length-map}
use Rattle.std.proofs.lemmas.Option.{cond_some}
use Rattle.std.proofs.lemmas.Bool.{and_parts, and_left, and_right, ne_eqb, eq-eqb, cases_Bool, cases_lt, or_parts, ltb-true, lt-ltb, eqb-true}
use Rattle.std.proofs.lemmas.Map.Entries.{option_filter}
use Rattle.script.specs.Grammar.{split, before, words, line_tokens, is_space, is_slash, values, sections, part}
use Rattle.std.specs.Bool.{then_some}
use Rattle.std.specs.List.{list_all, AllByRecursion}
use Rattle.std.specs.Option.{option_map}
use Rattle.script.specs.Steps.{Stated, Meaning, refreshed, dismissed, changed, admitted, contributed, finished, abandoned, alone_stands, alone_form, in_range, is_lone_id, first, id_stands, lone_id, lists_ids, lists_elements, pair_stands, change_form, admit_form, contribute_form, of_sections, under, letters, letter_form, begins_dealing, deals, known, form, any_form, deal_stands, deal_form, dealt, shown, opened, open_form, is_card, card_stands, stated, open_stands, cards, card_section, next_card}
use Rattle.script.proofs.grammar.Laws.{before_there, split_cut, split_more, first_section_long, first_section_is}
use Rattle.script.specs.declared.grammar.Token.{Token}
use Rattle.script.specs.declared.grammar.Token.TheVariants.{Number, Slash}

-- is another number
abbrev pub other : ℕ → ℕ → Bool
other n m = not (eqb m n)

-- ## Cards, one by one

-- the tokens after the first card
abbrev pub after_card : List Token → List Token
after_card ts = drop (length (card_section ts)) (drop 1 ts)

-- at a slash: the card after it, and the others
pub cards_cut : (ts : List Token) → 0 < length ts → before is_slash ts ≡ 0
    → (before is_slash (after_card ts) ≡ 0) × (cards ts ≡ card_section ts ∷ cards (after_card ts))
cards_cut [] some here = absurd (omega arith)
cards_cut (Number n ∷ ts) some here = absurd (omega arith)
cards_cut (Slash ∷ ts) some here =
    let n = before is_slash ts in
    let cut : length (card_section (Slash ∷ ts)) ≡ n = first_section_long ts in
    let section = part (sections ts) 0 in (
      ap (λ k. before is_slash (drop k ts)) cut ∙ before_there is_slash ts,
      ap (map values) (split_cut is_slash ts)
          ∙ ap (λ s. s ∷ map values (drop 1 (split is_slash (drop n ts)))) (sym (first_section_is ts))
          ∙ ap (λ r. section ∷ r) (sym (drop-map values 1 (split is_slash (drop n ts))))
          ∙ ap (λ k. section ∷ cards (drop k ts)) (sym cut),
    )

picked : {A B : Type 0} (f : A → B) (test : Bool) (x : A) → option_map f (then_some test x) ≡ cond test (Some (f x)) None
picked f true x = refl
picked f false x = refl

-- the card after the first slash, by what stands before the next
pub next_found : (ts us : List Token) (n : ℕ) → 0 < length ts → us ≡ drop 1 ts → n ≡ before is_slash us
    → option_map (λ card. (card, drop n us)) (then_some (is_card (values (take n us))) (stated (values (take n us)))) ≡ next_card ts
next_found ts us n some after cut =
    let s = card_section ts in
    let same : values (take n us) ≡ s =
    ap (λ k. values (take k us)) cut ∙ sym (first_section_is us) ∙ ap (λ r. part (sections r) 0) after in
    let long : n ≡ length s = cut ∙ sym (first_section_long us) ∙ ap (λ r. length (part (sections r) 0)) after in
    picked (λ card. (card, drop n us)) (is_card (values (take n us))) (stated (values (take n us)))
    ∙ ap (λ v. cond (is_card v) (Some (stated v, drop n us)) None) same
    ∙ ap (λ r. cond (is_card s) (Some (stated s, drop n r)) None) after
    ∙ ap (λ k. cond (is_card s) (Some (stated s, drop k (drop 1 ts))) None) long
    ∙ (rw (lt-ltb 0 (length ts) some) refl)

-- what `next_card` found
pub next_some : (ts : List Token) (card : Stated) (more : List Token) → Some (card, more) ≡ next_card ts
    → (0 < length ts) × (is_card (card_section ts) ≡ true) × (card ≡ stated (card_section ts)) × (more ≡ after_card ts)
next_some ts card more found =
    let is = cond_some (ltb 0 (length ts) && is_card (card_section ts)) (stated (card_section ts), after_card ts) (card, more) (sym found) in
    let test = and_parts (ltb 0 (length ts)) (is_card (card_section ts)) is.0 in
    (ltb-true 0 (length ts) test.0, test.1, ap (λ p. p.0) (sym is.1), ap (λ p. p.1) (sym is.1))

-- the cards that are left become fewer; what is known of them is not needed
pub card_shorter : (size : ℕ) (ts : List Token) (whole : Bool) → before is_slash ts ≡ 0 → list_all (card_stands size) (cards ts) ≡ whole
    → (card : Stated) (more : List Token) → Some (card, more) ≡ next_card ts → length more < length ts
card_shorter size ts whole here so_far card more found =
    let is = next_some ts card more found in
    omega (arith, is.0, ap length is.3, length-drop (length (card_section ts)) (drop 1 ts), length-drop 1 ts)

-- ## A walk over the cards of an `Open`

-- it begins at a slash, or there is none
pub open_begins : (size : ℕ) (ts : List Token) → open_stands size (sections ts) ≡ true
    → (before is_slash ts ≡ 0) × (list_all (card_stands size) (cards ts) ≡ true)
open_begins size ts stands =
    let parts = and_parts (eqb (length (part (sections ts) 0)) 0) (list_all (card_stands size) (cards ts)) stands in
    (sym (first_section_long ts) ∙ eqb-true _ _ parts.0, parts.1)

module _ (size : ℕ) (ts : List Token) (here : before is_slash ts ≡ 0) (stand : list_all (card_stands size) (cards ts) ≡ true) where
  -- each card found is the next one, its shares are elements, and the walk goes on after it
  pub walk_more : (card : Stated) (more : List Token) → Some (card, more) ≡ next_card ts
      → (before is_slash more ≡ 0)
      × (list_all (card_stands size) (cards more) ≡ true)
      × (list_all (in_range 0 size) card.shares ≡ true)
      × (map stated (cards ts) ≡ card ∷ map stated (cards more))
  walk_more card more found =
      let is = next_some ts card more found in
      let cut = cards_cut ts is.0 here in
      let all = and_parts (card_stands size (card_section ts)) (list_all (card_stands size) (cards (after_card ts))) (rw cut.1 at stand) in
      let shares = and_parts (is_card (card_section ts)) (list_all (in_range 0 size) (drop 2 (card_section ts))) all.0 in (
        ap (before is_slash) is.3 ∙ cut.0,
        ap (λ r. list_all (card_stands size) (cards r)) is.3 ∙ all.1,
        ap (λ (c : Stated). list_all (in_range 0 size) c.shares) is.2 ∙ shares.1,
        ap (map stated) cut.1 ∙ (ap (λ c. c ∷ map stated (cards (after_card ts))) (sym is.2) ∙ ap (λ r. card ∷ map stated (cards r)) (sym is.3)),
      )

-- ## Lines

-- nothing stands after the letter
pub alone_is : (ts : List Token) → eqb (length ts) 0 ≡ alone_stands (sections ts)
alone_is [] = refl
alone_is (Number n ∷ ts) =
    let some : eqb (suc (length ts)) 0 ≡ false = ne_eqb _ _ (λ e. absurd (omega arith)) in
    let number : eqb (length (part (sections (Number n ∷ ts)) 0)) 0 ≡ false =
    ne_eqb _ _ (λ e. absurd (omega (arith, e, first_section_long (Number n ∷ ts)))) in
    some ∙ sym (and_right _ _ number)
alone_is (Slash ∷ ts) =
    let some : eqb (suc (length ts)) 0 ≡ false = ne_eqb _ _ (λ e. absurd (omega arith)) in
    let more : eqb (length (sections (Slash ∷ ts))) 1 ≡ false =
    ne_eqb _ _ (λ e. absurd (omega (arith, e, length-map (split is_slash ts) values, ap length (split_cut is_slash ts)))) in
    some ∙ sym (and_left _ _ more)

under_false : {A : Type 0} (test : Bool) (x : A) → test ≡ false → None ≡ cond test (Some x) None
under_false true x e = absurd (true≢false e)
under_false false x e = refl

-- an id that stands alone is one token
pub lone_long : (ts : List Token) → 2 ≤ length ts → None ≡ lone_id (sections ts)
lone_long ts long =
    let ss = sections ts in
    let tests = eqb (length (part ss 0)) 1 && is_lone_id (first ss) in
    under_false (id_stands ss) (first ss) (
    elim (cases_lt (before is_slash ts) (length ts)) [
      | inl less ↦
          let more = split_more is_slash ts less in
          and_left (eqb (length ss) 1) tests (ne_eqb (length ss) 1 (λ e. absurd (omega (arith, more, e, length-map (split is_slash ts) values))))
      | inr past ↦
          and_right (eqb (length ss) 1) tests (and_left (eqb (length (part ss 0)) 1) (is_lone_id (first ss)) (ne_eqb (length (part ss 0)) 1 (λ e. absurd (omega (arith, long, past, e, first_section_long ts)))))
    ])

-- a letter that is the first word is the first byte
pub first_letter : (line : List ℕ) → length (part (words line) 0) ≡ 1 → get_or (part (words line) 0) 0 0 ≡ get_or line 0 0
first_letter [] one = absurd (omega arith)
first_letter (b ∷ line) one =
    elim (cases_Bool (is_space b)) [
      | inl space ↦ let none : ◌≡◌ {A = ℕ} 0 1 = rw space at one in absurd (omega arith)
      | inr letter ↦ rw (letter, split_cut is_space line) refl
    ]

-- ## The letters of dealing

abbrev Unknown : Option Meaning → Type 0
Unknown step = None ≡ option_filter (known false) step

unknown_cond : (test : Bool) (step : Meaning) → deals step ≡ false → Unknown (cond test (Some step) None)
unknown_cond true step round = rw round refl
unknown_cond false step round = refl

unknown_id : (test : Bool) (n : ℕ) → Unknown (option_map dismissed (cond test (Some n) None))
unknown_id true n = refl
unknown_id false n = refl

unknown_of : (form : List (List ℕ) → Option Meaning) → ((ss : List (List ℕ)) → Unknown (form ss)) → (ts : Option (List Token)) → Unknown (of_sections form ts)
unknown_of form each None = refl
unknown_of form each (Some ts) = each (sections ts)

unknown_under : (letter : ℕ) (entries : List (ℕ × Option Meaning)) → AllByRecursion (λ e. eqb letter e.0 ≡ true → Unknown e.1) entries → Unknown (under letter entries)
unknown_under letter [] all = refl
unknown_under letter (e ∷ es) all =
    elim (cases_Bool (eqb letter e.0)) [
      | inl same ↦ rw same (all.0 same)
      | inr other ↦ rw other (unknown_under letter es all.1)
    ]

-- no step that is known without the rounds has another letter
pub no_letter : (size letter : ℕ) (rest : List (List ℕ)) (ts : Option (List Token))
    → eqb letter 77 ≡ false → eqb letter 68 ≡ false → eqb letter 75 ≡ false → eqb letter 79 ≡ false → Unknown (letter_form size letter rest ts)
no_letter size letter rest ts no_M no_D no_K no_O =
    unknown_under letter (letters size rest ts) (
      (λ same. absurd (true≢false (sym same ∙ no_M))),
      (
        (λ same. absurd (true≢false (sym same ∙ no_D))),
        (
          (λ same. unknown_of (alone_form refreshed) (λ ss. unknown_cond (alone_stands ss) refreshed refl) ts),
          (
            (λ same. unknown_of (λ ss. option_map dismissed (lone_id ss)) (λ ss. unknown_id (id_stands ss) (first ss)) ts),
            (
              (λ same. unknown_of change_form (λ ss. unknown_cond (pair_stands ss && lists_ids (part ss 1)) (changed (first ss) (part ss 1)) refl) ts),
              (
                (λ same. unknown_of admit_form (λ ss. unknown_cond (pair_stands ss && (is_lone_id (first ss) && lists_ids (part ss 1))) (admitted (first ss) (part ss 1)) refl) ts),
                (
                  (λ same. unknown_of (contribute_form size) (λ ss. unknown_cond (pair_stands ss && (is_lone_id (first ss) && lists_elements size (part ss 1))) (contributed (first ss) (part ss 1)) refl) ts),
                  (
                    (λ same. unknown_of (alone_form finished) (λ ss. unknown_cond (alone_stands ss) finished refl) ts),
                    (
                      (λ same. unknown_of (alone_form abandoned) (λ ss. unknown_cond (alone_stands ss) abandoned refl) ts),
                      (
                        (λ same. absurd (true≢false (sym same ∙ no_K))),
                        ((λ same. absurd (true≢false (sym same ∙ no_O))), tt),
                      ),
                    ),
                  ),
                ),
              ),
            ),
          ),
        ),
      ),
    )

pub no_step : (rounds : Bool) (size : ℕ) (line : List ℕ) → (rounds || begins_dealing line) ≡ false → None ≡ form rounds size line
no_step true size line unlike = absurd (true≢false unlike)
no_step false size line unlike =
    let letter = get_or line 0 0 in
    let M = or_parts (eqb letter 77) (eqb letter 68 || (eqb letter 75 || eqb letter 79)) unlike in
    let D = or_parts (eqb letter 68) (eqb letter 75 || eqb letter 79) M.1 in
    let KO = or_parts (eqb letter 75) (eqb letter 79) D.1 in
    elim (cases_Bool (eqb (length (part (words line) 0)) 1)) [
      | inl one ↦ rw one (no_letter size letter (drop 1 (words line)) (line_tokens line) M.0 D.0 KO.0 KO.1)
      | inr many ↦ rw many refl
    ]

-- ## A step that is known

kept_cond : (test : Bool) (step : Meaning) → deals step ≡ true → cond test (Some step) None ≡ option_filter (known false) (cond test (Some step) None)
kept_cond true step deal = rw deal refl
kept_cond false step deal = refl

kept_id : (test : Bool) (n : ℕ) → option_map shown (cond test (Some n) None) ≡ option_filter (known false) (option_map shown (cond test (Some n) None))
kept_id true n = refl
kept_id false n = refl

kept_of : (form : List (List ℕ) → Option Meaning) → ((ss : List (List ℕ)) → form ss ≡ option_filter (known false) (form ss)) → (ts : Option (List Token))
    → of_sections form ts ≡ option_filter (known false) (of_sections form ts)
kept_of form each None = refl
kept_of form each (Some ts) = each (sections ts)

kept_under : (letter : ℕ) (entries : List (ℕ × Option Meaning)) → AllByRecursion (λ e. eqb letter e.0 ≡ true → e.1 ≡ option_filter (known false) e.1) entries
    → under letter entries ≡ option_filter (known false) (under letter entries)
kept_under letter [] all = refl
kept_under letter (e ∷ es) all =
    elim (cases_Bool (eqb letter e.0)) [
      | inl same ↦ rw same (all.0 same)
      | inr differs ↦ rw differs (kept_under letter es all.1)
    ]

kept_all : (step : Option Meaning) → step ≡ option_filter (known true) step
kept_all None = refl
kept_all (Some step) = refl

-- a letter of dealing is none of the others
abbrev begins : ℕ → Bool
begins letter = eqb letter 77 || (eqb letter 68 || (eqb letter 75 || eqb letter 79))

not_of_dealing : {A : Type 0} (letter n : ℕ) → begins letter ≡ true → begins n ≡ false → eqb letter n ≡ true → A
not_of_dealing letter n has differs same = absurd (true≢false (sym has ∙ (ap begins (eqb-true letter n same) ∙ differs)))

-- where the first byte is a letter of the script's other than M, each step is known
pub kept_step : (rounds : Bool) (size : ℕ) (line : List ℕ) (rest : List (List ℕ)) (ts : Option (List Token))
    → eqb (get_or line 0 0) 77 ≡ false → (rounds || begins_dealing line) ≡ true
    → letter_form size (get_or line 0 0) rest ts ≡ option_filter (known rounds) (letter_form size (get_or line 0 0) rest ts)
kept_step true size line rest ts no_M has = kept_all (letter_form size (get_or line 0 0) rest ts)
kept_step false size line rest ts no_M has =
    let letter = get_or line 0 0 in
    kept_under letter (letters size rest ts) (
      (λ same. absurd (true≢false (sym same ∙ no_M))),
      (
        (λ same. kept_of (deal_form size) (λ ss. kept_cond (deal_stands size ss) (dealt (get_or (part ss 0) 0 0) (get_or (part ss 0) 1 0) (part ss 1) (part ss 2) (part ss 3)) refl) ts),
        (
          not_of_dealing letter 82 has refl,
          (
            not_of_dealing letter 88 has refl,
            (
              not_of_dealing letter 84 has refl,
              (
                not_of_dealing letter 65 has refl,
                (
                  not_of_dealing letter 67 has refl,
                  (
                    not_of_dealing letter 70 has refl,
                    (
                      not_of_dealing letter 81 has refl,
                      (
                        (λ same. kept_of (λ ss. option_map shown (lone_id ss)) (λ ss. kept_id (id_stands ss) (first ss)) ts),
                        ((λ same. kept_of (open_form size) (λ ss. kept_cond (open_stands size ss) (opened (map stated (drop 1 ss))) refl) ts), tt),
                      ),
                    ),
                  ),
                ),
              ),
            ),
          ),
        ),
      ),
    )

pub any_letter : (size : ℕ) (line : List ℕ) → length (part (words line) 0) ≡ 1
    → any_form size line ≡ letter_form size (get_or line 0 0) (drop 1 (words line)) (line_tokens line)
any_letter size line one = let lone : eqb (length (part (words line) 0)) 1 ≡ true = eq-eqb _ _ one in rw lone refl
