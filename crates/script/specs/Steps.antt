-- The steps of a script: what each line says, and which lines are of the form.
use Rattle.std.specs.Prelude.{ℕ, Bool, true, false, cond, not, ◌&&◌, ◌||◌, List, [], ◌∷◌, map, length, drop, Some, None, codes, Option, ◌==◌, nat_le, nat_lt, slice_index}
use Rattle.std.specs.Borrow.{Bor}
use Rattle.std.specs.Option.{option_map}
use Rattle.std.proofs.lemmas.Map.Entries.{option_filter}
use Rattle.std.specs.Str.{bytes_eq}
use Rattle.std.specs.List.{list_all}
use Rattle.script.specs.Grammar.{words, line_tokens, sections, values, part}
use Rattle.script.specs.declared.grammar.Token.{Token}
use Rattle.script.specs.declared.steps.Card.{Card}
use Rattle.script.specs.declared.steps.FieldName.{FieldName}
use Rattle.script.specs.declared.steps.FieldName.TheVariants.{Z13, Z41, Z257, Byte}
use Rattle.script.specs.declared.steps.Step.{Step}
use Rattle.script.specs.declared.steps.Step.TheVariants.{Name, Deal, Refresh, Dismiss, Change, Admit, Contribute, Finish, Abandon, Show, Open}

-- ## What a step says

-- a card as a line states it
pub record Stated : Type 0 where
  pub id : ℕ
  pub epoch : ℕ
  pub shares : List ℕ

-- a step of the script, over plain lists of numbers
pub data Meaning : Type 0 where
  named : FieldName → Meaning
  dealt : (threshold places : ℕ) (ids key numbers : List ℕ) → Meaning
  refreshed : Meaning
  dismissed : (id : ℕ) → Meaning
  changed : (threshold : ℕ) (helpers : List ℕ) → Meaning
  admitted : (id : ℕ) (helpers : List ℕ) → Meaning
  contributed : (id : ℕ) (numbers : List ℕ) → Meaning
  finished : Meaning
  abandoned : Meaning
  shown : (id : ℕ) → Meaning
  opened : List Stated → Meaning

-- ## Tests

-- no number stands twice
abbrev pub once : List ℕ → Bool
once [] = true
once (x ∷ xs) = list_all (λ y. not (y == x)) xs && once xs

-- at least low, and below high
abbrev pub in_range : ℕ → ℕ → ℕ → Bool
in_range low high n = nat_le low n && nat_lt n high

-- a section has 1 to 1,024 numbers
abbrev pub filled : List ℕ → Bool
filled section = in_range 1 1025 (length section)

-- a set of ids lists each once, and each is 1 to 32
abbrev pub lists_ids : List ℕ → Bool
lists_ids section = filled section && (list_all (in_range 1 33) section && once section)

-- elements are below the field's size
abbrev pub lists_elements : ℕ → List ℕ → Bool
lists_elements size section = filled section && list_all (in_range 0 size) section

-- an id that stands alone is at most 255
abbrev pub is_lone_id : ℕ → Bool
is_lone_id n = nat_le n 255

-- a card has an id and an epoch, and then its shares
abbrev pub is_card : List ℕ → Bool
is_card section = in_range 2 1025 (length section) && is_lone_id (slice_index section 0)

-- the shares of a card are elements
abbrev pub card_stands : ℕ → List ℕ → Bool
card_stands size section = is_card section && list_all (in_range 0 size) (drop 2 section)

-- the card that a section states
abbrev pub stated : List ℕ → Stated
stated section = record { id = slice_index section 0; epoch = slice_index section 1; shares = drop 2 section }

-- ## The form of each step

-- the fields' names
abbrev pub names : List (List ℕ × FieldName)
names = (codes "z13", Z13) ∷ (codes "z41", Z41) ∷ (codes "z257", Z257) ∷ (codes "byte", Byte) ∷ []

-- what a word names
abbrev pub named_by : {A : Type 0} → List ℕ → List (List ℕ × A) → Option A
named_by word [] = None
named_by word (entry ∷ more) = cond (bytes_eq word entry.0) (Some entry.1) (named_by word more)

abbrev pub field_name : List ℕ → Option FieldName
field_name word = named_by word names

-- `M word`: one word, a field's name
abbrev pub name_form : List (List ℕ) → Option FieldName
name_form rest = cond (length rest == 1) (field_name (part rest 0)) None

-- `D t places / ids / key / numbers`: two numbers, and three sections
abbrev pub deal_stands : ℕ → List (List ℕ) → Bool
deal_stands size ss =
    (length ss == 4) && (length (part ss 0) == 2 && (lists_ids (part ss 1) && (lists_elements size (part ss 2) && lists_elements size (part ss 3))))

abbrev pub deal_form : ℕ → List (List ℕ) → Option Meaning
deal_form size ss =
    cond (deal_stands size ss)
    (Some (dealt (slice_index (part ss 0) 0) (slice_index (part ss 0) 1) (part ss 1) (part ss 2) (part ss 3)))
    None

-- the number that a step begins with
abbrev pub first : List (List ℕ) → ℕ
first ss = slice_index (part ss 0) 0

-- a letter alone: no number, and no section
abbrev pub alone_stands : List (List ℕ) → Bool
alone_stands ss = length ss == 1 && length (part ss 0) == 0

-- `R`, `F` and `Q` stand alone
abbrev pub alone_form : Meaning → List (List ℕ) → Option Meaning
alone_form step ss = cond (alone_stands ss) (Some step) None

-- `X id` and `K id`: one number
abbrev pub id_stands : List (List ℕ) → Bool
id_stands ss = length ss == 1 && (length (part ss 0) == 1 && is_lone_id (first ss))

abbrev pub lone_id : List (List ℕ) → Option ℕ
lone_id ss = cond (id_stands ss) (Some (first ss)) None

-- one number and one section
abbrev pub pair_stands : List (List ℕ) → Bool
pair_stands ss = length ss == 2 && length (part ss 0) == 1

-- `T t / helpers`
abbrev pub change_form : List (List ℕ) → Option Meaning
change_form ss = cond (pair_stands ss && lists_ids (part ss 1)) (Some (changed (first ss) (part ss 1))) None

-- `A id / helpers`
abbrev pub admit_form : List (List ℕ) → Option Meaning
admit_form ss = cond (pair_stands ss && (is_lone_id (first ss) && lists_ids (part ss 1))) (Some (admitted (first ss) (part ss 1))) None

-- `C id / numbers`
abbrev pub contribute_form : ℕ → List (List ℕ) → Option Meaning
contribute_form size ss =
    cond (pair_stands ss && (is_lone_id (first ss) && lists_elements size (part ss 1))) (Some (contributed (first ss) (part ss 1))) None

-- `O / card / card ..`: nothing before the first slash, and a card after each
abbrev pub open_stands : ℕ → List (List ℕ) → Bool
open_stands size ss = length (part ss 0) == 0 && list_all (card_stands size) (drop 1 ss)

abbrev pub open_form : ℕ → List (List ℕ) → Option Meaning
open_form size ss = cond (open_stands size ss) (Some (opened (map stated (drop 1 ss)))) None

-- a form of the sections, where all words after the letter are tokens
abbrev pub of_sections : (List (List ℕ) → Option Meaning) → Option (List Token) → Option Meaning
of_sections form None = None
of_sections form (Some ts) = form (sections ts)

-- what a line says, by its letter
abbrev pub letters : ℕ → List (List ℕ) → Option (List Token) → List (ℕ × Option Meaning)
letters size rest ts =
    (77, option_map named (name_form rest))  -- M
    ∷ (68, of_sections (deal_form size) ts)  -- D
    ∷ (82, of_sections (alone_form refreshed) ts)  -- R
    ∷ (88, of_sections (λ ss. option_map dismissed (lone_id ss)) ts)  -- X
    ∷ (84, of_sections change_form ts)  -- T
    ∷ (65, of_sections admit_form ts)  -- A
    ∷ (67, of_sections (contribute_form size) ts)  -- C
    ∷ (70, of_sections (alone_form finished) ts)  -- F
    ∷ (81, of_sections (alone_form abandoned) ts)  -- Q
    ∷ (75, of_sections (λ ss. option_map shown (lone_id ss)) ts)  -- K
    ∷ (79, of_sections (open_form size) ts)  -- O
    ∷ []

-- what stands under a letter
abbrev pub under : {A : Type 0} → ℕ → List (ℕ × Option A) → Option A
under letter [] = None
under letter (entry ∷ more) = cond (letter == entry.0) entry.1 (under letter more)

abbrev pub letter_form : ℕ → ℕ → List (List ℕ) → Option (List Token) → Option Meaning
letter_form size letter rest ts = under letter (letters size rest ts)

-- what a line says, where its elements are below size: its first word is a letter
abbrev pub any_form : ℕ → List ℕ → Option Meaning
any_form size line =
    cond (length (part (words line) 0) == 1)
    (letter_form size (slice_index line 0) (drop 1 (words line)) (line_tokens line))
    None

-- ## The two vocabularies

-- the bytes come with the rounds
abbrev pub is_modulus : FieldName → Bool
is_modulus Z13 = true
is_modulus Z41 = true
is_modulus Z257 = true
is_modulus Byte = false

-- the steps of dealing: a modulus is named, a key dealt, a card shown, cards opened
abbrev pub deals : Meaning → Bool
deals (named field) = is_modulus field
deals (dealt threshold places ids key numbers) = true
deals (shown id) = true
deals (opened cards) = true
deals _ = false

-- such a step's letter comes first: M, D, K or O
abbrev pub begins_dealing : List ℕ → Bool
begins_dealing line =
    let letter = slice_index line 0 in
    (letter == 77) || ((letter == 68) || ((letter == 75) || (letter == 79)))

-- a script with the rounds knows every step, and one without them the steps of dealing
abbrev pub known : Bool → Meaning → Bool
known rounds step = rounds || deals step

-- what a line says in a script with the rounds or without: a step that is known there
abbrev pub form : Bool → ℕ → List ℕ → Option Meaning
form rounds size line = option_filter (known rounds) (any_form size line)

-- ## What the code's steps say

-- the cards of tokens, each after its slash
abbrev pub cards : List Token → List (List ℕ)
cards ts = drop 1 (sections ts)

abbrev pub meaning : Step → Meaning
meaning (Name field) = named field
meaning (Deal threshold places ids key numbers) = dealt threshold places (values ids.now) (values key.now) (values numbers.now)
meaning Refresh = refreshed
meaning (Dismiss id) = dismissed id
meaning (Change threshold helpers) = changed threshold (values helpers.now)
meaning (Admit id helpers) = admitted id (values helpers.now)
meaning (Contribute id numbers) = contributed id (values numbers.now)
meaning Finish = finished
meaning Abandon = abandoned
meaning (Show id) = shown id
meaning (Open ts) = opened (map stated (cards ts.now))

-- the cards of a step that opens are cards
abbrev pub step_stands : ℕ → Step → Bool
step_stands size (Name field) = true
step_stands size (Deal threshold places ids key numbers) = true
step_stands size Refresh = true
step_stands size (Dismiss id) = true
step_stands size (Change threshold helpers) = true
step_stands size (Admit id helpers) = true
step_stands size (Contribute id numbers) = true
step_stands size Finish = true
step_stands size Abandon = true
step_stands size (Show id) = true
step_stands size (Open ts) = open_stands size (sections ts.now)

abbrev pub stands : ℕ → Option Step → Bool
stands size None = true
stands size (Some step) = step_stands size step

-- the numbers after the first slash
abbrev pub card_section : List Token → List ℕ
card_section ts = part (sections (drop 1 ts)) 0

-- the card after the first slash, and the tokens after it
abbrev pub next_card : List Token → Option (Stated × List Token)
next_card ts =
    cond (nat_lt 0 (length ts) && is_card (card_section ts))
    (Some (stated (card_section ts), drop (length (card_section ts)) (drop 1 ts)))
    None

-- a card of the code, as a line states it
abbrev pub card_of : Card → Stated
card_of card = record { id = card.id; epoch = card.epoch; shares = values card.shares.now }

-- a card of the code, and the tokens after it
abbrev pub card_read : Option (Card × Bor (List Token)) → Option (Stated × List Token)
card_read None = None
card_read (Some found) = Some (card_of found.0, found.1.now)
