-- The number of each refusal, and what holds of an answer. Assumes nothing.
use Rattle.std.specs.Prelude.{◌≡◌, ℕ, ◌⊎◌, Ok, Err, Result}
use Rattle.circle.specs.Denial.{number as denial_number}
use Rattle.station.specs.declared.refusal.Failure.{Failure}
use Rattle.station.specs.declared.refusal.Failure.TheVariants.{Refused, OutOfMemory}
use Rattle.station.specs.declared.refusal.Refusal.{Refusal}
use Rattle.station.specs.declared.refusal.Refusal.TheVariants.{NotOfForm, NotAllowed, Denied}

abbrev pub number : Refusal → ℕ
number NotOfForm = 1
number NotAllowed = 2
number (Denied denial) = denial_number denial

-- what holds of a refusal, where there was memory
abbrev pub IfRefused : Failure → (Refusal → Type 0) → Type 0
IfRefused (Refused refusal) P = P refusal
IfRefused (OutOfMemory error) P = Unit {0}

-- what holds of an answer, where there was memory
abbrev pub IfAnswered : {A : Type 0} → Result A Failure → (Result A Refusal → Type 0) → Type 0
IfAnswered (Ok x) P = P (Ok x)
IfAnswered (Err failure) P = IfRefused failure (λ refusal. P (Err refusal))

-- what holds where there was no memory to answer
abbrev pub IfLacking : {A : Type 0} → Result A Failure → Type 0 → Type 0
IfLacking (Ok x) P = Unit {0}
IfLacking (Err (Refused refusal)) P = Unit {0}
IfLacking (Err (OutOfMemory error)) P = P

-- what is now is what was, or what comes next
abbrev pub StaysOrSteps : {X : Type 0} → X → X → X → Type 0
StaysOrSteps old next now = (now ≡ old) ⊎ (now ≡ next)
