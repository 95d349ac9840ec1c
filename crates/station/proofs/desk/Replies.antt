-- What is said of a step that is done, and of one that is refused. Assumes nothing.
use Rattle.std.proofs.Common.{◌≡◌, ℕ, Bool, List, Ok, Err, Result, IsErrAnd, refl, ap, ◌∙◌}
use Rattle.std.specs.Prelude.{Vec}
use Rattle.std.proofs.lemmas.Result.{err_from_is_err_and}
use Rattle.circle.specs.declared.denial.Denial.{Denial}
use Rattle.fields.specs.Field.{Ops, Points, Finite}
use Rattle.script.specs.Steps.{meaning}
use Rattle.script.specs.declared.steps.Step.{Step}
use Rattle.script.specs.declared.steps.Step.TheVariants.{Name, Deal, Refresh, Dismiss, Change, Admit, Contribute, Finish, Abandon, Show, Open}
use Rattle.station.specs.Station.{desk_said, move}
use Rattle.station.specs.Desk.{Kept, answer_of, done_with, items_of, kept_after, reply, standing}
use Rattle.station.specs.Refusal.{IfAnswered, IfRefused}
use Rattle.station.specs.declared.refusal.Failure.{Failure}
use Rattle.station.specs.declared.refusal.Failure.TheVariants.{Refused, OutOfMemory}
use Rattle.station.specs.declared.refusal.Refusal.{Refusal}

module _ {K : Type 0} (Z : Type 0) where
  refused : (refusal : Refusal) (moved : Result (Kept K) Refusal) → Err refusal ≡ answer_of moved → items_of {X = ℕ} {Z = Z} (Err refusal) ≡ reply moved
  refused refusal (Ok k) e = cc
  refused refusal (Err other) e = cc

  failed : (failure : Failure) (moved : Result (Kept K) Refusal)
      → IfAnswered {A = Unit {0}} (Err failure) (λ a. a ≡ answer_of moved) → IfAnswered {A = Vec ℕ Z} (Err failure) (λ a. items_of a ≡ reply moved)
  failed (Refused refusal) moved e = refused refusal moved e
  failed (OutOfMemory error) moved e = tt

-- at the exit of a `?`
pub failed_exit : {K Z : Type 0} (r : Result (Vec ℕ Z) Failure) (failure : Failure) (moved : Result (Kept K) Refusal)
    → IsErrAnd r (λ e. e ≡ failure) → IfAnswered {A = Unit {0}} (Err failure) (λ a. a ≡ answer_of moved)
    → IfAnswered r (λ a. items_of a ≡ reply moved)
failed_exit {K} {Z} r failure moved is e =
    let p = err_from_is_err_and r is in
    rw (p.1, p.2) (failed Z failure moved e)

-- a step that shows nothing and opens nothing is answered as it is done
pub replied : {K : Type 0} (F : Ops K) (fin : Finite K) (m : Points F) (same : K → K → Bool) (k : Kept K) (step : Step)
    → ((id : ℕ) → step ≡ Show id → ⊥) → ((ts : _) → step ≡ Open ts → ⊥)
    → desk_said F fin m same k (meaning step) ≡ reply (move F fin m k (meaning step))
replied F fin m same k (Name field) not-show not-open = refl
replied F fin m same k (Deal threshold places ids key numbers) not-show not-open = refl
replied F fin m same k Refresh not-show not-open = refl
replied F fin m same k (Dismiss id) not-show not-open = refl
replied F fin m same k (Change threshold helpers) not-show not-open = refl
replied F fin m same k (Admit id helpers) not-show not-open = refl
replied F fin m same k (Contribute id numbers) not-show not-open = refl
replied F fin m same k Finish not-show not-open = refl
replied F fin m same k Abandon not-show not-open = refl
replied F fin m same k (Show id) not-show not-open = absurd (not-show id refl)
replied F fin m same k (Open ts) not-show not-open = absurd (not-open ts refl)

-- a step that is done says how the circle stands after it
pub done_reply : {K : Type 0} (moved : Result (Kept K) Refusal) (old now : Kept K) (said : List ℕ)
    → Ok tt ≡ answer_of moved → now ≡ kept_after moved old → said ≡ standing now.holding → Ok said ≡ reply moved
done_reply (Ok k) old now said done is stands = ap Ok (stands ∙ ap (λ (k : Kept _). standing k.holding) is)
done_reply (Err refusal) old now said done is stands = cc

-- a call of the circle that is denied gives its denial, whatever was to be made of it
denied : {X Y : Type 0} (x : X) (y : Y) (refusal : Refusal) (answer : Result (Unit {0}) Denial) → Err refusal ≡ done_with x answer → Err refusal ≡ done_with y answer
denied x y refusal (Ok done) e = cc
denied x y refusal (Err denial) e = cc

-- at the exit of a `?`
pub denied_exit : {X Y W : Type 0} (x : X) (y : List Y) (answer : Result (Unit {0}) Denial) (r : Result (Vec Y W) Failure) (failure : Failure)
    → IsErrAnd r (λ e. e ≡ failure) → IfRefused failure (λ refusal. Err refusal ≡ done_with x answer)
    → IfAnswered r (λ a. items_of a ≡ done_with y answer)
denied_exit {X} {Y} {W} x y answer r failure is e =
    let p = err_from_is_err_and r is in
    let Q : Failure → Type 0 = λ f. IfRefused f (λ refusal. Err refusal ≡ done_with x answer) → IfRefused f (λ refusal. Err refusal ≡ done_with y answer) in
    let at : Q failure = elim failure as Q [ Refused refusal ↦ denied x y refusal answer | (OutOfMemory error) ↦ λ q. q ] in
    rw (p.1, p.2) (at e)
