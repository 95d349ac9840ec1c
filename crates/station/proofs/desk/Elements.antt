-- The elements that tokens name, by their places. Assumes nothing.
use Rattle.std.proofs.Common.{◌≡◌, ℕ, ◌+◌, ◌<◌, List, length, get_or, set, ap, ◌∙◌, arith}
use Rattle.std.proofs.lemmas.Grind.{common_steps}
use Rattle.std.proofs.lemmas.List.{get_or-map, length-map}
use Rattle.fields.specs.Field.{Ops, Finite}
use Rattle.station.specs.Desk.{element_of, elements}
use Rattle.script.specs.Grammar.{value, values}
use Rattle.script.specs.declared.grammar.Token.{Token}

pub named_at : {K : Type 0} (F : Ops K) (fin : Finite K) (ts : List Token) (i : ℕ) (d : Token) (z : K) → i < length ts
    → get_or (elements F fin (values ts)) i z ≡ element_of F fin (value (get_or ts i d))
named_at F fin ts i d z within =
    get_or-map (element_of F fin) (values ts) i 0 z (omega (arith, length-map ts value)) ∙ ap (element_of F fin) (get_or-map value ts i d 0 within)

-- one element more is written
pub one_more : {K : Type 0} (xs named : List K) (i : ℕ) (x z : K) → ((k : ℕ) → k < i → get_or xs k z ≡ get_or named k z) → i < length xs
    → x ≡ get_or named i z → (k : ℕ) → k < i + 1 → get_or (set xs i x) k z ≡ get_or named k z
one_more xs named i x z so_far within is k less = grind (arith, common_steps)
