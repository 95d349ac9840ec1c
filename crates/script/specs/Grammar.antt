-- The grammar of a line: words between spaces, numbers in plain decimal, and sections between slashes.
use Rattle.std.specs.Prelude.{ℕ, ◌+◌, ◌-◌, ◌*◌, Bool, true, false, cond, not, ◌&&◌, ◌||◌, List, [], ◌∷◌, map, length, drop, Some, None, Option, ◌==◌, nat_le, nat_lt, slice_index, slice_index_or}
use Rattle.std.specs.Option.{option_map}
use Rattle.std.specs.List.{position_or_len, slice_split}
use Rattle.std.specs.Str.{all_ascii_digits}
use Rattle.script.specs.declared.grammar.Token.{Token}
use Rattle.script.specs.declared.grammar.Token.TheVariants.{Number, Slash}

-- ## Parts of a list

-- the parts between the elements that pass the test
abbrev pub split : {A : Type 0} → (A → Bool) → List A → List (List A)
split test xs = slice_split test xs

-- how many elements stand before the first that passes
abbrev pub before : {A : Type 0} → (A → Bool) → List A → ℕ
before test xs = position_or_len test xs

-- ## Words

-- byte 32
abbrev pub is_space : ℕ → Bool
is_space byte = byte == 32

-- the words of a line: what stands between its single spaces
abbrev pub words : List ℕ → List (List ℕ)
words line = split is_space line

-- ## Numbers

-- what digits write, after the number so far
abbrev pub read_on : ℕ → List ℕ → ℕ
read_on n [] = n
read_on n (c ∷ cs) = read_on (n * 10 + (c - 48)) cs

-- no zero stands in front of another digit
abbrev pub unpadded : List ℕ → Bool
unpadded word = length word == 1 || not (slice_index word 0 == 48)

-- the number that digits write, if it is at most 65,535
abbrev pub digits_number : List ℕ → Option ℕ
digits_number word = cond (all_ascii_digits word && nat_le (read_on 0 word) 65535) (Some (read_on 0 word)) None

-- the number that a word is: at least one digit, without padding
abbrev pub number : List ℕ → Option ℕ
number word = cond (nat_lt 0 (length word) && unpadded word) (digits_number word) None

-- ## Tokens

-- a slash that is a word
abbrev pub is_slash_word : List ℕ → Bool
is_slash_word word = length word == 1 && slice_index word 0 == 47

-- a word after the first is a slash or a number
abbrev pub token : List ℕ → Option Token
token word = cond (is_slash_word word) (Some Slash) (option_map Number (number word))

-- one more in front, if both are there
abbrev pub also : {A : Type 0} → Option A → Option (List A) → Option (List A)
also None rest = None
also (Some x) None = None
also (Some x) (Some xs) = Some (x ∷ xs)

-- the tokens of words, if each is one
abbrev pub tokens : List (List ℕ) → Option (List Token)
tokens [] = Some []
tokens (word ∷ rest) = also (token word) (tokens rest)

-- the tokens of a line: of all its words but the first
abbrev pub line_tokens : List ℕ → Option (List Token)
line_tokens line = tokens (drop 1 (words line))

-- ## Sections

-- a slash
abbrev pub is_slash : Token → Bool
is_slash (Number n) = false
is_slash Slash = true

-- the number that a token is; between slashes there are only numbers
abbrev pub value : Token → ℕ
value (Number n) = n
value Slash = 0

-- the numbers of tokens
abbrev pub values : List Token → List ℕ
values ts = map value ts

-- the sections of tokens: the numbers between their slashes
abbrev pub sections : List Token → List (List ℕ)
sections ts = map values (split is_slash ts)

-- the part at a place, from 0
abbrev pub part : {A : Type 0} → List (List A) → ℕ → List A
part parts k = slice_index_or parts k []
