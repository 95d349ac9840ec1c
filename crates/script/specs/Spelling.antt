-- The one spelling of a step, and the laws of the grammar: a line of the form is the spelling of its step.
use Rattle.std.specs.Prelude.{◌≡◌, ℕ, ◌≤◌, Bool, List, [], ◌∷◌, ◌++◌, Some, codes, decimal}
use Rattle.std.specs.List.{flat_map}
use Rattle.script.specs.Grammar.{number}
use Rattle.script.specs.Steps.{Stated, Meaning, named, dealt, refreshed, dismissed, changed, admitted, contributed, finished, abandoned, shown, opened, form}
use Rattle.script.specs.declared.steps.FieldName.{FieldName}
use Rattle.script.specs.declared.steps.FieldName.TheVariants.{Z13, Z41, Z257, Byte}

-- a space, and the number in decimal
abbrev pub number_text : ℕ → List ℕ
number_text n = 32 ∷ decimal n

-- a space, a slash, and the numbers
abbrev pub section_text : List ℕ → List ℕ
section_text section = 32 ∷ 47 ∷ flat_map number_text section

-- a field's name
abbrev pub field_text : FieldName → List ℕ
field_text Z13 = codes "z13"
field_text Z41 = codes "z41"
field_text Z257 = codes "z257"
field_text Byte = codes "byte"

-- a card as a section
abbrev pub card_text : Stated → List ℕ
card_text card = section_text (card.id ∷ card.epoch ∷ card.shares)

-- the line of a step, without its newline
abbrev pub spelled : Meaning → List ℕ
spelled (named field) = 77 ∷ 32 ∷ field_text field
spelled (dealt threshold places ids key numbers) =
    68 ∷ (number_text threshold ++ (number_text places ++ (section_text ids ++ (section_text key ++ section_text numbers))))
spelled refreshed = 82 ∷ []
spelled (dismissed id) = 88 ∷ number_text id
spelled (changed threshold helpers) = 84 ∷ (number_text threshold ++ section_text helpers)
spelled (admitted id helpers) = 65 ∷ (number_text id ++ section_text helpers)
spelled (contributed id numbers) = 67 ∷ (number_text id ++ section_text numbers)
spelled finished = 70 ∷ []
spelled abandoned = 81 ∷ []
spelled (shown id) = 75 ∷ number_text id
spelled (opened cards) = 79 ∷ flat_map card_text cards

-- the laws of a script with the rounds or without
pub record GrammarLaws (rounds : Bool) : Type 0 where
  -- a word is a number just where it is that number in decimal, and the number at most 65,535
  pub reads : (word : List ℕ) (n : ℕ) → number word ≡ Some n → (word ≡ decimal n) × (n ≤ 65535)
  pub writes : (word : List ℕ) (n : ℕ) → word ≡ decimal n → n ≤ 65535 → number word ≡ Some n
  -- a line of the form is the spelling of its step
  pub spells : (size : ℕ) (line : List ℕ) (step : Meaning) → form rounds size line ≡ Some step → spelled step ≡ line
  -- no two lines have one step
  pub alone : (size other : ℕ) (line line' : List ℕ) (step : Meaning) → form rounds size line ≡ Some step → form rounds other line' ≡ Some step → line ≡ line'
