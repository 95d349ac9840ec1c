-- A line of the form is the spelling of its step.
use Rattle.std.proofs.Common.{◌≡◌, ℕ, ◌+◌, ◌<◌, ◌≤◌, Bool, true, false, cond, ◌&&◌, eqb, ltb, leb, List, [], ◌∷◌, ◌++◌, map, length, get_or, drop, Some, None, Option, sym, refl, ap, ◌∙◌, inl, inr, arith, length-drop}
use Rattle.std.specs.List.{flat_map, join_with_byte, list_all, onto_first, AllByRecursion}
use Rattle.std.specs.Option.{option_map}
use Rattle.std.specs.Str.{bytes_eq}
use Rattle.std.proofs.lemmas.List.{append_assoc, append-nil, drop-drop}
use Rattle.std.proofs.lemmas.List.Splits.{join_with_byte-slice_split}
use Rattle.std.proofs.lemmas.Slice.Eq.{bytes_eq-Decides}
use Rattle.std.proofs.lemmas.Map.Entries.{option_filter}
use Rattle.std.proofs.lemmas.Option.{none-some, same_Some, cond_some}
use Rattle.std.proofs.lemmas.Bool.{and_parts, cases_Bool, cases_lt, eqb-true, leb-true, lt-ltb, ltb-true, ne_eqb}
use Rattle.script.specs.Grammar.{split, before, words, is_space, number, is_slash_word, token, also, tokens, is_slash, values, sections, part}
use Rattle.script.specs.Steps.{Meaning, named, refreshed, dismissed, changed, admitted, contributed, finished, abandoned, shown, in_range, is_card, is_lone_id, card_stands, stated, names, named_by, field_name, name_form, deal_stands, deal_form, first, alone_stands, alone_form, id_stands, lone_id, lists_ids, lists_elements, pair_stands, change_form, admit_form, contribute_form, open_stands, open_form, of_sections, under, letters, letter_form, any_form, known, form}
use Rattle.script.specs.Spelling.{number_text, section_text, field_text, card_text, spelled}
use Rattle.script.specs.declared.grammar.Token.{Token}
use Rattle.script.specs.declared.grammar.Token.TheVariants.{Number, Slash}
use Rattle.script.specs.declared.steps.FieldName.{FieldName}
use Rattle.script.specs.declared.steps.FieldName.TheVariants.{Z13, Z41, Z257, Byte}
use Rattle.script.proofs.grammar.Laws.{split_cut, split_whole, split_more, split_next, before_there, before_within}
use Rattle.script.proofs.grammar.Numbers.{some_under, number_reads}

-- ## Words

-- words, each after a space
abbrev spaced : List (List ℕ) → List ℕ
spaced ws = flat_map (λ w. 32 ∷ w) ws

joined : (word : List ℕ) (ws : List (List ℕ)) → join_with_byte 32 (word ∷ ws) ≡ word ++ spaced ws
joined word [] = sym (append-nil word)
joined word (w ∷ ws) = ap (λ r. word ++ (32 ∷ r)) (joined w ws)

-- the words of a line, and the spaces between them, are the line
unsplit : (line : List ℕ) → part (words line) 0 ++ spaced (drop 1 (words line)) ≡ line
unsplit line =
    let cut = split_cut is_space line in
    let whole : join_with_byte 32 (words line) ≡ line = join_with_byte-slice_split 32 line in
    rw cut (sym (joined _ _)) ∙ ap (join_with_byte 32) (sym cut) ∙ whole

lone_first : (first rest line : List ℕ) → first ++ rest ≡ line → length first ≡ 1 → line ≡ get_or line 0 0 ∷ rest
lone_first [] rest line whole one = absurd (omega arith)
lone_first (b ∷ []) rest line whole one = sym whole ∙ ap (λ l. get_or l 0 0 ∷ rest) whole
lone_first (b ∷ (d ∷ bs)) rest line whole one = absurd (omega arith)

-- ## Tokens

abbrev token_text : Token → List ℕ
token_text (Number n) = number_text n
token_text Slash = 32 ∷ 47 ∷ []

slash_spelled : (word : List ℕ) → is_slash_word word ≡ true → word ≡ 47 ∷ []
slash_spelled word is =
    let parts = and_parts (eqb (length word) 1) (eqb (get_or word 0 0) 47) is in
    lone_first word [] word (append-nil word) (eqb-true _ _ parts.0) ∙ ap (λ b. b ∷ []) (eqb-true _ _ parts.1)

number_spelled : (word : List ℕ) (o : Option ℕ) (t : Token) → number word ≡ o → option_map Number o ≡ Some t → 32 ∷ word ≡ token_text t
number_spelled word None t is some = absurd (none-some t some)
number_spelled word (Some n) t is some =
    let same : Number n ≡ t = same_Some _ _ some in
    ap (λ w. 32 ∷ w) (number_reads word n is).0 ∙ ap token_text same

token_spelled : (word : List ℕ) (t : Token) → token word ≡ Some t → 32 ∷ word ≡ token_text t
token_spelled word t is =
    elim (cases_Bool (is_slash_word word)) [
      | inl slash ↦
          let same : Slash ≡ t = same_Some _ _ (rw slash at is) in
          ap (λ w. 32 ∷ w) (slash_spelled word slash) ∙ ap token_text same
      | inr other ↦ number_spelled word (number word) t refl (rw other at is)
    ]

also_some : {A : Type 0} (o : Option A) (rest : Option (List A)) (xs : List A) → also o rest ≡ Some xs
    → (x : A) × ((ys : List A) × ((o ≡ Some x) × ((rest ≡ Some ys) × (xs ≡ x ∷ ys))))
also_some None rest xs e = absurd (none-some xs e)
also_some (Some x) None xs e = absurd (none-some xs e)
also_some (Some x) (Some ys) xs e = (x, (ys, (refl, (refl, cc))))

tokens_spelled : (ws : List (List ℕ)) (ts : List Token) → tokens ws ≡ Some ts → spaced ws ≡ flat_map token_text ts
tokens_spelled [] ts is = ap (flat_map token_text) (same_Some _ _ is)
tokens_spelled (w ∷ ws) ts is =
    let both = also_some (token w) (tokens ws) ts is in
    let facts = both.1.1 in
    ap (λ a. a ++ spaced ws) (token_spelled w both.0 facts.0)
    ∙ (ap (λ r. token_text both.0 ++ r) (tokens_spelled ws both.1.0 facts.1.0)
    ∙ ap (flat_map token_text) (sym facts.1.1))

-- ## Sections

-- the numbers before the first slash, and the sections
abbrev sections_text : List (List ℕ) → List ℕ
sections_text ss = flat_map number_text (part ss 0) ++ flat_map section_text (drop 1 ss)

onto_text : (n : ℕ) (ps : List (List Token)) → sections_text (map values (onto_first (Number n) ps)) ≡ number_text n ++ sections_text (map values ps)
onto_text n [] = append-nil _
onto_text n (p ∷ ps) = append_assoc (number_text n) (flat_map number_text (values p)) (flat_map section_text (map values ps))

sections_spelled : (ts : List Token) → flat_map token_text ts ≡ sections_text (sections ts)
sections_spelled [] = refl
sections_spelled (Number n ∷ ts) = ap (λ r. number_text n ++ r) (sections_spelled ts) ∙ sym (onto_text n (split is_slash ts))
sections_spelled (Slash ∷ ts) =
    let cut = split_cut is_slash ts in
    let whole : flat_map section_text (sections ts) ≡ 32 ∷ 47 ∷ sections_text (sections ts) = rw cut refl in
    ap (λ r. 32 ∷ 47 ∷ r) (sections_spelled ts) ∙ sym whole

-- ## Steps

name_in : (word : List ℕ) (field : FieldName) (entries : List (List ℕ × FieldName)) → AllByRecursion (λ e. e.0 ≡ field_text e.1) entries
    → named_by word entries ≡ Some field → word ≡ field_text field
name_in word field [] texts is = absurd (none-some field is)
name_in word field (e ∷ es) texts is =
    elim (cases_Bool (bytes_eq word e.0)) [
      | inl same ↦ (bytes_eq-Decides word e.0).0 same ∙ (texts.0 ∙ ap field_text (same_Some _ _ (rw same at is)))
      | inr other ↦ name_in word field es texts.1 (rw other at is)
    ]

name_spelled : (word : List ℕ) (field : FieldName) → field_name word ≡ Some field → word ≡ field_text field
name_spelled word field is = name_in word field names (refl, (refl, (refl, (refl, tt)))) is

-- no field's name has a space in it
one_field : (field : FieldName) → length (words (field_text field)) ≡ 1
one_field Z13 = refl
one_field Z41 = refl
one_field Z257 = refl
one_field Byte = refl

no_field : (rest : List ℕ) (o : Option FieldName) → field_name rest ≡ o → 2 ≤ length (words rest) → o ≡ None
no_field rest None is more = refl
no_field rest (Some field) is more =
    let same : length (words rest) ≡ length (words (field_text field)) = ap (λ w. length (words w)) (name_spelled rest field is) in
    absurd (omega (arith, more, same, one_field field))

-- so what stands after the first space is a name, or its words are not one name
name_rest : (rest : List ℕ) → field_name rest ≡ name_form (words rest)
name_rest rest =
    elim (cases_lt (before is_space rest) (length rest)) [
      | inl less ↦
          let more : 2 ≤ length (words rest) = split_more is_space rest less in
          let other : eqb (length (words rest)) 1 ≡ false = ne_eqb _ _ (λ e. absurd (omega (arith, more, e))) in
          no_field rest (field_name rest) refl more ∙ sym (ap (λ b. cond b (field_name (part (words rest) 0)) None) other)
      | inr past ↦
          let whole : words rest ≡ rest ∷ [] = split_whole is_space rest (omega (arith, past, before_within is_space rest)) in
          sym (ap name_form whole)
    ]

pub name_at : (line : List ℕ) (n : ℕ) → Some n ≡ cond (ltb (before is_space line) (length line)) (Some (before is_space line)) None
    → field_name (drop (n + 1) line) ≡ name_form (drop 1 (words line))
name_at line n is =
    let b = before is_space line in
    let found = cond_some (ltb b (length line)) b n (sym is) in
    let rest = drop b line in
    let words-rest : drop 1 (words line) ≡ words (drop (b + 1) line) =
    ap (drop 1) (split_cut is_space line)
    ∙ split_next is_space rest (omega (arith, ltb-true _ _ found.0, length-drop b line)) (before_there is_space line)
    ∙ ap words (drop-drop 1 b line) in
    ap (λ k. field_name (drop (k + 1) line)) (sym found.1) ∙ name_rest (drop (b + 1) line) ∙ ap name_form (sym words-rest)

pub name_none : (line : List ℕ) → None ≡ cond (ltb (before is_space line) (length line)) (Some (before is_space line)) None → None ≡ name_form (drop 1 (words line))
name_none line is =
    elim (cases_lt (before is_space line) (length line)) [
      | inl less ↦ absurd (none-some (before is_space line) (rw (lt-ltb _ _ less) at is))
      | inr past ↦
          let whole : words line ≡ line ∷ [] = split_whole is_space line (omega (arith, past, before_within is_space line)) in
          sym (ap (λ ws. name_form (drop 1 ws)) whole)
    ]

one_word : (rest : List (List ℕ)) → length rest ≡ 1 → spaced rest ≡ 32 ∷ part rest 0
one_word [] one = absurd (omega arith)
one_word (w ∷ []) one = ap (λ r. 32 ∷ r) (append-nil w)
one_word (w ∷ (v ∷ ws)) one = absurd (omega arith)

mapped_some : {A B : Type 0} (f : A → B) (o : Option A) (y : B) → option_map f o ≡ Some y → (x : A) × ((o ≡ Some x) × (f x ≡ y))
mapped_some f None y e = absurd (none-some y e)
mapped_some f (Some x) y e = (x, (refl, same_Some _ _ e))

named_spelled : (rest : List (List ℕ)) (step : Meaning) → option_map named (name_form rest) ≡ Some step → spelled step ≡ 77 ∷ spaced rest
named_spelled rest step is =
    let inside = mapped_some named (name_form rest) step is in
    let form-is = some_under (eqb (length rest) 1) (field_name (part rest 0)) inside.0 inside.1.0 in
    ap spelled (sym inside.1.1)
    ∙ ap (λ r. 77 ∷ r) (ap (λ w. 32 ∷ w) (sym (name_spelled (part rest 0) inside.0 form-is.1)) ∙ sym (one_word rest (eqb-true _ _ form-is.0)))

-- a step of sections is spelled after its letter as they are
sections_step : (letter : ℕ) (form_of : List (List ℕ) → Option Meaning)
    → ((ss : List (List ℕ)) (step : Meaning) → form_of ss ≡ Some step → spelled step ≡ letter ∷ sections_text ss)
    → (rest : List (List ℕ)) (ts : Option (List Token)) (step : Meaning) → tokens rest ≡ ts → of_sections form_of ts ≡ Some step → spelled step ≡ letter ∷ spaced rest
sections_step letter form_of each_step rest None step read is = absurd (none-some step is)
sections_step letter form_of each_step rest (Some ts) step read is =
    each_step (sections ts) step is
    ∙ ap (λ r. letter ∷ r) (sym (tokens_spelled rest ts read ∙ sections_spelled ts))

one_number : (s : List ℕ) → length s ≡ 1 → s ≡ get_or s 0 0 ∷ []
one_number s one = lone_first s [] s (append-nil s) one

two_numbers : (s : List ℕ) → length s ≡ 2 → s ≡ get_or s 0 0 ∷ get_or s 1 0 ∷ []
two_numbers [] two = absurd (omega arith)
two_numbers (a ∷ []) two = absurd (omega arith)
two_numbers (a ∷ (b ∷ [])) two = refl
two_numbers (a ∷ (b ∷ (c ∷ s))) two = absurd (omega arith)

deal_text : (ss : List (List ℕ)) → length ss ≡ 4 → length (part ss 0) ≡ 2
    → sections_text ss ≡ number_text (get_or (part ss 0) 0 0) ++ (number_text (get_or (part ss 0) 1 0) ++ (section_text (part ss 1) ++ (section_text (part ss 2) ++ section_text (part ss 3))))
deal_text [] four two = absurd (omega arith)
deal_text (a ∷ []) four two = absurd (omega arith)
deal_text (a ∷ (b ∷ [])) four two = absurd (omega arith)
deal_text (a ∷ (b ∷ (c ∷ []))) four two = absurd (omega arith)
deal_text (a ∷ (b ∷ (c ∷ (d ∷ [])))) four two =
    let head = two_numbers a two in
    let first : flat_map number_text a ≡ number_text (get_or a 0 0) ++ number_text (get_or a 1 0) =
    ap (flat_map number_text) head ∙ ap (λ r. number_text (get_or a 0 0) ++ r) (append-nil (number_text (get_or a 1 0))) in
    let rest : flat_map section_text (b ∷ (c ∷ (d ∷ []))) ≡ section_text b ++ (section_text c ++ section_text d) =
    ap (λ r. section_text b ++ (section_text c ++ r)) (append-nil (section_text d)) in
    ap (λ r. r ++ flat_map section_text (b ∷ (c ∷ (d ∷ [])))) first
    ∙ (ap (λ r. (number_text (get_or a 0 0) ++ number_text (get_or a 1 0)) ++ r) rest ∙ append_assoc (number_text (get_or a 0 0)) (number_text (get_or a 1 0)) _)
deal_text (a ∷ (b ∷ (c ∷ (d ∷ (e ∷ ss))))) four two = absurd (omega arith)

dealt_spelled : (size : ℕ) (ss : List (List ℕ)) (step : Meaning) → deal_form size ss ≡ Some step → spelled step ≡ 68 ∷ sections_text ss
dealt_spelled size ss step is =
    let stands = some_under (deal_stands size ss) _ step is in
    let count = and_parts (eqb (length ss) 4) _ stands.0 in
    let head = and_parts (eqb (length (part ss 0)) 2) _ count.1 in
    ap spelled (sym (same_Some _ _ stands.1)) ∙ ap (λ r. 68 ∷ r) (sym (deal_text ss (eqb-true _ _ count.0) (eqb-true _ _ head.0)))

id_text : (ss : List (List ℕ)) → length ss ≡ 1 → length (part ss 0) ≡ 1 → sections_text ss ≡ number_text (first ss)
id_text [] one lone = absurd (omega arith)
id_text (a ∷ []) one lone = append-nil _ ∙ (ap (flat_map number_text) (one_number a lone) ∙ append-nil _)
id_text (a ∷ (b ∷ ss)) one lone = absurd (omega arith)

-- a step of a letter and an id
id_spelled : (letter : ℕ) (make : ℕ → Meaning) → ((id : ℕ) → spelled (make id) ≡ letter ∷ number_text id)
    → (ss : List (List ℕ)) (step : Meaning) → option_map make (lone_id ss) ≡ Some step → spelled step ≡ letter ∷ sections_text ss
id_spelled letter make text ss step is =
    let inside = mapped_some make (lone_id ss) step is in
    let stands = some_under (id_stands ss) _ inside.0 inside.1.0 in
    let count = and_parts (eqb (length ss) 1) _ stands.0 in
    let head = and_parts (eqb (length (part ss 0)) 1) _ count.1 in
    ap spelled (sym inside.1.1)
    ∙ (text inside.0
    ∙ ap (λ r. letter ∷ r)
    (ap number_text (sym (same_Some _ _ stands.1)) ∙ sym (id_text ss (eqb-true _ _ count.0) (eqb-true _ _ head.0))))

none_text : (ss : List (List ℕ)) → length ss ≡ 1 → length (part ss 0) ≡ 0 → sections_text ss ≡ []
none_text [] one none = absurd (omega arith)
none_text ([] ∷ []) one none = refl
none_text ((n ∷ ns) ∷ []) one none = absurd (omega arith)
none_text (a ∷ (b ∷ ss)) one none = absurd (omega arith)

-- a step of a letter alone
alone_spelled : (letter : ℕ) (whole : Meaning) → spelled whole ≡ letter ∷ []
    → (ss : List (List ℕ)) (step : Meaning) → alone_form whole ss ≡ Some step → spelled step ≡ letter ∷ sections_text ss
alone_spelled letter whole text ss step is =
    let stands = some_under (alone_stands ss) _ step is in
    let parts = and_parts (eqb (length ss) 1) _ stands.0 in
    ap spelled (sym (same_Some _ _ stands.1))
    ∙ (text ∙ ap (λ r. letter ∷ r) (sym (none_text ss (eqb-true _ _ parts.0) (eqb-true _ _ parts.1))))

pair_text : (ss : List (List ℕ)) → length ss ≡ 2 → length (part ss 0) ≡ 1 → sections_text ss ≡ number_text (first ss) ++ section_text (part ss 1)
pair_text [] two lone = absurd (omega arith)
pair_text (a ∷ []) two lone = absurd (omega arith)
pair_text (a ∷ (b ∷ [])) two lone =
    ap (λ r. r ++ flat_map section_text (b ∷ [])) (ap (flat_map number_text) (one_number a lone) ∙ append-nil (number_text (get_or a 0 0)))
    ∙ ap (λ r. number_text (get_or a 0 0) ++ r) (append-nil (section_text b))
pair_text (a ∷ (b ∷ (c ∷ ss))) two lone = absurd (omega arith)

-- a step of a letter, a number and a section
pair_spelled : (letter : ℕ) (more : List (List ℕ) → Bool) (make : ℕ → List ℕ → Meaning)
    → ((n : ℕ) (section : List ℕ) → spelled (make n section) ≡ letter ∷ (number_text n ++ section_text section))
    → (ss : List (List ℕ)) (step : Meaning) → cond (pair_stands ss && more ss) (Some (make (first ss) (part ss 1))) None ≡ Some step
    → spelled step ≡ letter ∷ sections_text ss
pair_spelled letter more make text ss step is =
    let stands = some_under (pair_stands ss && more ss) _ step is in
    let pair = and_parts (eqb (length ss) 2) _ (and_parts (pair_stands ss) (more ss) stands.0).0 in
    ap spelled (sym (same_Some _ _ stands.1))
    ∙ (text (first ss) (part ss 1) ∙ ap (λ r. letter ∷ r) (sym (pair_text ss (eqb-true _ _ pair.0) (eqb-true _ _ pair.1))))

card_spelled : (s : List ℕ) → 2 ≤ length s → card_text (stated s) ≡ section_text s
card_spelled [] two = absurd (omega arith)
card_spelled (a ∷ []) two = absurd (omega arith)
card_spelled (a ∷ (b ∷ s)) two = refl

cards_spelled : (size : ℕ) (ss : List (List ℕ)) → list_all (card_stands size) ss ≡ true → flat_map card_text (map stated ss) ≡ flat_map section_text ss
cards_spelled size [] stands = refl
cards_spelled size (s ∷ ss) stands =
    let parts = and_parts (card_stands size s) (list_all (card_stands size) ss) stands in
    let card = and_parts (is_card s) (list_all (in_range 0 size) (drop 2 s)) parts.0 in
    let long = and_parts (in_range 2 1025 (length s)) (is_lone_id (get_or s 0 0)) card.0 in
    let least = and_parts (leb 2 (length s)) (ltb (length s) 1025) long.0 in
    ap (λ t. t ++ flat_map card_text (map stated ss)) (card_spelled s (leb-true _ _ least.0))
    ∙ ap (λ r. section_text s ++ r) (cards_spelled size ss parts.1)

none_first : (s : List ℕ) → length s ≡ 0 → flat_map number_text s ≡ []
none_first [] none = refl
none_first (a ∷ s) none = absurd (omega arith)

opened_spelled : (size : ℕ) (ss : List (List ℕ)) (step : Meaning) → open_form size ss ≡ Some step → spelled step ≡ 79 ∷ sections_text ss
opened_spelled size ss step is =
    let stands = some_under (open_stands size ss) _ step is in
    let parts = and_parts (eqb (length (part ss 0)) 0) (list_all (card_stands size) (drop 1 ss)) stands.0 in
    ap spelled (sym (same_Some _ _ stands.1))
    ∙ ap (λ r. 79 ∷ r) (cards_spelled size (drop 1 ss) parts.1 ∙ sym (ap (λ r. r ++ flat_map section_text (drop 1 ss)) (none_first (part ss 0) (eqb-true _ _ parts.0))))

-- ## Lines

under_spelled : (letter : ℕ) (tail : List ℕ) (entries : List (ℕ × Option Meaning))
    → AllByRecursion (λ e. (step : Meaning) → e.1 ≡ Some step → spelled step ≡ e.0 ∷ tail) entries
    → (step : Meaning) → under letter entries ≡ Some step → spelled step ≡ letter ∷ tail
under_spelled letter tail [] texts step is = absurd (none-some step is)
under_spelled letter tail (e ∷ es) texts step is =
    elim (cases_Bool (eqb letter e.0)) [
      | inl same ↦ texts.0 step (rw same at is) ∙ ap (λ c. c ∷ tail) (sym (eqb-true _ _ same))
      | inr other ↦ under_spelled letter tail es texts.1 step (rw other at is)
    ]

module _ (rest : List (List ℕ)) where
  entry_spelled : (letter : ℕ) (form_of : List (List ℕ) → Option Meaning)
      → ((ss : List (List ℕ)) (step : Meaning) → form_of ss ≡ Some step → spelled step ≡ letter ∷ sections_text ss)
      → (step : Meaning) → of_sections form_of (tokens rest) ≡ Some step → spelled step ≡ letter ∷ spaced rest
  entry_spelled letter form_of each_step step is = sections_step letter form_of each_step rest (tokens rest) step refl is

letter_spelled : (size letter : ℕ) (rest : List (List ℕ)) (step : Meaning) → letter_form size letter rest (tokens rest) ≡ Some step → spelled step ≡ letter ∷ spaced rest
letter_spelled size letter rest step is =
    under_spelled letter (spaced rest) (letters size rest (tokens rest)) (
      named_spelled rest,
      (
        entry_spelled rest 68 (deal_form size) (dealt_spelled size),
        (
          entry_spelled rest 82 (alone_form refreshed) (alone_spelled 82 refreshed refl),
          (
            entry_spelled rest 88 (λ ss. option_map dismissed (lone_id ss)) (id_spelled 88 dismissed (λ id. refl)),
            (
              entry_spelled rest 84 change_form (pair_spelled 84 (λ ss. lists_ids (part ss 1)) changed (λ n ns. refl)),
              (
                entry_spelled rest 65 admit_form (pair_spelled 65 (λ ss. is_lone_id (first ss) && lists_ids (part ss 1)) admitted (λ n ns. refl)),
                (
                  entry_spelled rest 67 (contribute_form size) (pair_spelled 67 (λ ss. is_lone_id (first ss) && lists_elements size (part ss 1)) contributed (λ n ns. refl)),
                  (
                    entry_spelled rest 70 (alone_form finished) (alone_spelled 70 finished refl),
                    (
                      entry_spelled rest 81 (alone_form abandoned) (alone_spelled 81 abandoned refl),
                      (
                        entry_spelled rest 75 (λ ss. option_map shown (lone_id ss)) (id_spelled 75 shown (λ id. refl)),
                        (entry_spelled rest 79 (open_form size) (opened_spelled size), tt),
                      ),
                    ),
                  ),
                ),
              ),
            ),
          ),
        ),
      ),
    ) step is

any_form_spelled : (size : ℕ) (line : List ℕ) (step : Meaning) → any_form size line ≡ Some step → spelled step ≡ line
any_form_spelled size line step is =
    let lone = some_under (eqb (length (part (words line) 0)) 1) _ step is in
    letter_spelled size (get_or line 0 0) (drop 1 (words line)) step lone.1
    ∙ sym (lone_first (part (words line) 0) (spaced (drop 1 (words line))) line (unsplit line) (eqb-true _ _ lone.0))

-- what passes a test was there before it
filtered_some : {A : Type 0} (test : A → Bool) (o : Option A) (x : A) → option_filter test o ≡ Some x → o ≡ Some x
filtered_some test None x e = absurd (none-some x e)
filtered_some test (Some y) x e = ap Some (cond_some (test y) y x e).1

pub form_spelled : (rounds : Bool) (size : ℕ) (line : List ℕ) (step : Meaning) → form rounds size line ≡ Some step → spelled step ≡ line
form_spelled rounds size line step is = any_form_spelled size line step (filtered_some (known rounds) (any_form size line) step is)
