-- What a sum over an iterator comes to. Assumes nothing.
use Rattle.std.proofs.Common.{◌≡◌, List, Option, sym, ap, ◌∙◌}
use Rattle.std.specs.Iterator.{Drains}
use Rattle.std.proofs.lemmas.Iterator.{YieldsList, items_from_drains}
use Rattle.std.proofs.lemmas.List.{map-id}
use Rattle.fields.specs.Field.{Ops}
use Rattle.circle.specs.Polynomial.{sum}

pub sum_yielded : {S K : Type 0} (F : Ops K) {steps : S → Option K → S → Type 0} {s : S} {all : List K} (r : K)
    → ((xs : List K) × Drains steps s xs × (r ≡ sum F xs)) → YieldsList steps (λ x. x) s all → r ≡ sum F all
sum_yielded F r ran given =
    ran.2 ∙ ap (sum F) (sym (map-id ran.0) ∙ items_from_drains ran.0 (ran.1.1.0, ran.1.1.1, λ _. (ran.1.0, ran.1.1.2)) given)
