-- What each step says and keeps at the desk of one field. Assumes nothing.
use Rattle.std.specs.Prelude.{ℕ, ◌*◌, min, Bool, List, [], ◌∷◌, map, length, replicate, Ok, Err, vec_items, fold, Result, Vec}
use Rattle.std.proofs.Common.{inl, inr}
use Rattle.std.proofs.lemmas.Bool.{cases_lt}
use Rattle.fields.specs.Field.{Ops, Points, Finite}
use Rattle.circle.specs.Ids.{inserted, size}
use Rattle.circle.specs.Begin.{begin_answer, begin_tally}
use Rattle.circle.specs.Card.{show_answer, shares_of}
use Rattle.circle.specs.Contribute.{contribute_answer, contribute_round, contribute_tally}
use Rattle.circle.specs.Deal.{deal_answer, deal_table}
use Rattle.circle.specs.Finish.{finish_answer, finish_table, abandon_answer, end_tally}
use Rattle.circle.specs.Open.{Face, open_answer, open_key}
use Rattle.circle.specs.Round.{RoundFacts, round_facts}
use Rattle.circle.specs.State.{Facts, facts}
use Rattle.circle.specs.declared.denial.Denial.{Denial}
use Rattle.circle.specs.declared.kind.Kind.{Kind}
use Rattle.script.specs.Steps.{Stated}
use Rattle.station.specs.declared.desk.Desk.{Desk}
use Rattle.station.specs.declared.desk.Desk.TheVariants.{Empty, Settled, Running}
use Rattle.station.specs.declared.desk.Running.{Running as RunningDesk}
use Rattle.station.specs.declared.desk.Settled.{Settled as SettledDesk}
use Rattle.station.specs.declared.refusal.Refusal.{Refusal}
use Rattle.station.specs.declared.refusal.Refusal.TheVariants.{NotAllowed, Denied}

-- what a line is answered: `ok` and numbers, or `no` and the number of the refusal
abbrev pub Said : Type 0
Said = Result (List ℕ) Refusal

-- the elements that an answer of the code has
abbrev pub items_of : {X Z : Type 0} → Result (Vec X Z) Refusal → Result (List X) Refusal
items_of (Ok v) = Ok (vec_items v)
items_of (Err refusal) = Err refusal

-- ## What a desk keeps

-- no circle yet, a circle, or an open round
pub data Holding : Type 0 where
  none : Holding
  settled : Facts → Holding
  running : RoundFacts → Holding

-- with the table of shares, and the tally
pub record Kept (K : Type 0) : Type 0 where
  pub holding : Holding
  pub table : List K
  pub tally : List K

-- a desk with no circle
abbrev pub nothing : {K : Type 0} → Kept K
nothing = record { holding = none; table = []; tally = [] }

abbrev pub settled_kept : {K : Type 0} → SettledDesk K → Kept K
settled_kept s = record { holding = settled (facts s.circle); table = vec_items s.memory.table; tally = vec_items s.memory.tally }

-- the second braces are the members of the bounds of the field, which Rattle passes
abbrev pub running_kept : {K : Type 0} {g e a s m n : _} → RunningDesk K g e a s m n → Kept K
running_kept r = record { holding = running (round_facts r.round); table = vec_items r.memory.table; tally = vec_items r.memory.tally }

abbrev pub kept : {K : Type 0} {g e a s m n : _} → Desk K g e a s m n → Kept K
kept Empty = nothing
kept (Settled s) = settled_kept s
kept (Running r) = running_kept r

-- what is said of a circle: epoch, threshold and the roll's size
abbrev pub circle_standing : Facts → List ℕ
circle_standing c = c.epoch ∷ c.threshold ∷ size c.roll ∷ []

-- of a round, what is said of the circle that abandoning gives back
abbrev pub standing : Holding → List ℕ
standing none = []
standing (settled c) = circle_standing c
standing (running r) = circle_standing r.circle

-- ## What a step makes of what is kept: what is kept then, or its refusal, and nothing has changed

abbrev pub kept_after : {K : Type 0} → Result (Kept K) Refusal → Kept K → Kept K
kept_after (Ok k) old = k
kept_after (Err refusal) old = old

abbrev pub answer_of : {K : Type 0} → Result (Kept K) Refusal → Result (Unit {0}) Refusal
answer_of (Ok k) = Ok tt
answer_of (Err refusal) = Err refusal

-- what is said of it: where it is done, how the circle stands then
abbrev pub reply : {K : Type 0} → Result (Kept K) Refusal → Said
reply (Ok k) = Ok (standing k.holding)
reply (Err refusal) = Err refusal

-- what a call of the circle gives: this where it is done, and else its denial
abbrev pub done_with : {X : Type 0} → X → Result (Unit {0}) Denial → Result X Refusal
done_with x (Ok _) = Ok x
done_with x (Err denial) = Err (Denied denial)

-- the set of listed ids
abbrev pub set_of : List ℕ → ℕ
set_of ids = fold inserted 0 ids

module _ {K : Type 0} (F : Ops K) (fin : Finite K) where
  -- the element that a number names; a number that is not below the field's size names zero, and no line of the form has one
  abbrev pub element_of : ℕ → K
  element_of n = elim (cases_lt n fin.size) [ inl h ↦ fin.element n h | inr h ↦ F.zero ]

  abbrev pub elements : List ℕ → List K
  elements ns = map element_of ns

  abbrev pub numbers : List K → List ℕ
  numbers xs = map fin.number xs

  module _ (m : Points F) where
    -- ## D

    abbrev pub dealt_answer : ℕ → ℕ → List ℕ → List ℕ → List ℕ → Result Facts Denial
    dealt_answer threshold places ids key ns =
        deal_answer m.largest (set_of ids) threshold places (length key) (length ns) (32 * min places 32)

    -- memory for so many places
    abbrev pub blank : ℕ → List K
    blank places = replicate (32 * min places 32) F.zero

    abbrev pub dealt_move : Result Facts Denial → List ℕ → List ℕ → ℕ → Result (Kept K) Refusal
    dealt_move (Ok c) key ns places =
        Ok (record { holding = settled c; table = deal_table F m.at (Ok c) (elements key) (elements ns) (blank places); tally = blank places })
    dealt_move (Err d) key ns places = Err (Denied d)

    abbrev pub deal_move : Holding → ℕ → ℕ → List ℕ → List ℕ → List ℕ → Result (Kept K) Refusal
    deal_move none threshold places ids key ns = dealt_move (dealt_answer threshold places ids key ns) key ns places
    deal_move (settled c) threshold places ids key ns = Err NotAllowed
    deal_move (running r) threshold places ids key ns = Err NotAllowed

    -- ## R, X, T and A

    abbrev pub begun_move : Result RoundFacts (Facts × Denial) → Kept K → Result (Kept K) Refusal
    begun_move (Ok r) k = Ok (record { holding = running r; table = k.table; tally = begin_tally F (Ok r) k.tally })
    begun_move (Err back) k = Err (Denied back.1)

    abbrev pub begin_move : Holding → Kind → Kept K → Result (Kept K) Refusal
    begin_move none kind k = Err NotAllowed
    begin_move (settled c) kind k = begun_move (begin_answer m.largest c kind (length k.tally)) k
    begin_move (running r) kind k = Err NotAllowed

    -- ## C

    abbrev pub contributed_move : Result (Unit {0}) Denial → RoundFacts → ℕ → List ℕ → Kept K → Result (Kept K) Refusal
    contributed_move (Ok done) r id ns k =
        Ok (record {
          holding = running (contribute_round (Ok done) r id);
          table = k.table;
          tally = contribute_tally F m.at (Ok done) r id (elements ns) k.table k.tally;
        })
    contributed_move (Err d) r id ns k = Err (Denied d)

    abbrev pub contribute_move : Holding → ℕ → List ℕ → Kept K → Result (Kept K) Refusal
    contribute_move none id ns k = Err NotAllowed
    contribute_move (settled c) id ns k = Err NotAllowed
    contribute_move (running r) id ns k =
        contributed_move (contribute_answer m.largest r id (length (elements ns)) (length k.table) (length k.tally)) r id ns k

    -- ## F and Q

    abbrev pub finished_move : Result Facts (RoundFacts × Denial) → RoundFacts → Kept K → Result (Kept K) Refusal
    finished_move (Ok c) r k =
        Ok (record {
          holding = settled c;
          table = finish_table F m.at (Ok c) r k.table k.tally;
          tally = end_tally F (Ok c) k.tally;
        })
    finished_move (Err back) r k = Err (Denied back.1)

    abbrev pub finish_move : Holding → Kept K → Result (Kept K) Refusal
    finish_move none k = Err NotAllowed
    finish_move (settled c) k = Err NotAllowed
    finish_move (running r) k = finished_move (finish_answer m.largest r (length k.table) (length k.tally)) r k

    abbrev pub abandoned_move : Result Facts (RoundFacts × Denial) → Kept K → Result (Kept K) Refusal
    abandoned_move (Ok c) k = Ok (record { holding = settled c; table = k.table; tally = end_tally F (Ok c) k.tally })
    abandoned_move (Err back) k = Err (Denied back.1)

    abbrev pub abandon_move : Holding → Kept K → Result (Kept K) Refusal
    abandon_move none k = Err NotAllowed
    abandon_move (settled c) k = Err NotAllowed
    abandon_move (running r) k = abandoned_move (abandon_answer r (length k.tally)) k

    -- ## K

    -- id, epoch and shares
    abbrev pub show_said : Holding → List K → ℕ → Said
    show_said none table id = Err NotAllowed
    show_said (settled c) table id =
        done_with (id ∷ c.epoch ∷ numbers (shares_of F table id c.places)) (show_answer m.largest c id (length table) c.places)
    show_said (running r) table id = Err NotAllowed

    -- ## O

    -- a card as a line states it
    abbrev pub face_of : Stated → Face K
    face_of card = record { id = card.id; epoch = card.epoch; shares = elements card.shares }

    -- the key
    abbrev pub key_of : Facts → List (Face K) → List K
    key_of c cards = open_key F m.at (Ok tt) c cards []

    abbrev pub open_said : (K → K → Bool) → Holding → List Stated → Said
    open_said same none cards = Err NotAllowed
    open_said same (settled c) cards =
        done_with (numbers (key_of c (map face_of cards))) (open_answer F m.at same m.largest c (map face_of cards) c.places)
    open_said same (running r) cards = Err NotAllowed
