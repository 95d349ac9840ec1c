-- A whole round, from a beginning over all contributions to a finish. Assumes nothing.
use Rattle.std.proofs.Common.{◌≡◌, ℕ, List, [], ◌∷◌, length, Ok, sym, refl, ap, ◌∙◌, subst}
use Rattle.fields.specs.Field.{Ops, FieldLaws, Points}
use Rattle.circle.proofs.ids.Laws.{member_id}
use Rattle.circle.specs.declared.kind.Kind.{Kind}
use Rattle.circle.specs.Contribute.{contribute_round, contribute_tally}
use Rattle.circle.specs.Finish.{finish_table}
use Rattle.circle.specs.Round.{RoundFacts, after, terms}
use Rattle.circle.specs.RoundLaws.{Contribution, Proper, round_with, tally_with, Taken, Made, Leads, Rounds}
use Rattle.circle.specs.State.{Facts}
use Rattle.circle.specs.Table.{entry, piece, cleared}
use Rattle.circle.proofs.rounds.Gathered.{Shared, gathered_none, gathered_more, line_after}
use Rattle.circle.proofs.rounds.Granted.{Begins, begins, gives, Finishes, finishes, after_proper}
use Rattle.circle.proofs.rounds.Places.{Running, place_begins, place_grows, place_ends, place_keeps, place_made}

-- contributions change nothing of a round but who has contributed
round_stays : {K : Type 0} (r : RoundFacts) (xs : List (Contribution K))
    → round_with r xs ≡ record { circle = r.circle; kind = r.kind; contributed = (round_with r xs).contributed }
round_stays r [] = refl
round_stays r (x ∷ xs) = round_stays (contribute_round (Ok tt) r x.id) xs

-- the polynomial of the tally at the place p, after contributions
abbrev pub gathered_with : {K : Type 0} → Ops K → (ℕ → K) → RoundFacts → ℕ → List K → List K → List (Contribution K) → List K
gathered_with F at r p f g [] = g
gathered_with F at r p f g (x ∷ xs) =
    gathered_with F at (contribute_round (Ok tt) r x.id) p f (gathered_more F at r.kind f g x.id (piece (terms r) x.numbers p)) xs

module _ {K : Type 0} {F : Ops K} (laws : FieldLaws F) (m : Points F) where
  pub all_give : (r : RoundFacts) (p : ℕ) (table tally f g : List K) (xs : List (Contribution K)) (n s : ℕ) → Taken F m r n s xs
      → Running F m r p table tally f g
      → Running F m (round_with r xs) p table (tally_with F m r table tally xs) f (gathered_with F m.at r p f g xs)
  all_give r p table tally f g [] n s taken now = now
  all_give r p table tally f g (x ∷ xs) n s taken now =
      let first = gives m.largest r x.id (length x.numbers) n s taken.0 in
      all_give (contribute_round (Ok tt) r x.id) p table (contribute_tally F m.at (Ok tt) r x.id x.numbers table tally) f
      (gathered_more F m.at r.kind f g x.id (piece (terms r) x.numbers p)) xs n s taken.1
      (place_grows laws m r p table tally f g x.id x.numbers n s first now)

  -- ## A round r of the kind k over the circle c

  module _ (c : Facts) (k : Kind) (table tally : List K) (xs : List (Contribution K)) (r : RoundFacts) where
    abbrev end : RoundFacts
    end = round_with r xs

    -- the tally and the table as the round leaves them
    abbrev last_tally : List K
    last_tally = tally_with F m r table (cleared F tally) xs

    abbrev last_table : List K
    last_table = finish_table F m.at (Ok (after end)) end table last_tally

    module _ (c' : Facts) (proper : Proper c) (began : Begins m.largest c k (length tally) r)
        (taken : Taken F m r (length table) (length tally) xs) (ended : Finishes m.largest end (length table) (length tally) c') where
      end_is : end ≡ record { circle = c; kind = k; contributed = end.contributed }
      end_is = round_stays r xs ∙ ap (λ q. record { circle = q.circle; kind = q.kind; contributed = end.contributed }) began.is

      end_proper : Proper (after end)
      end_proper = subst (λ q. Proper (after q)) (sym end_is) (after_proper k end.contributed m.few began.allowed proper)

      leads : Leads F m k c table (after end) last_table
      leads = (
        end_proper,
        λ p within f long lie.
            let shared : Shared F m.at c (entry F.zero table p) f = record { long = long; lies = λ h on. lie h on.1 } in
            let none = gathered_none F k c.threshold in
            let g = gathered_with F m.at r p f none xs in
            let first = subst (λ q. Running F m q p table (cleared F tally) f none) (sym began.is)
            (place_begins laws m c k p table tally f within proper began.allowed shared) in
            let now = all_give r p table (cleared F tally) f none xs (length table) (length tally) taken first in
            let made = place_made laws m end p table last_tally f g now in
            let left = place_ends laws m end p table last_tally f g (length table) (length tally) c' ended now in (
              line_after F end.kind f g,
              left.long,
              place_keeps laws m end p table last_tally f g (length table) (length tally) c' ended now,
              subst (λ k'. Made F m k' f (line_after F end.kind f g)) (ap (λ q. q.kind) end_is) made,
              λ h on. left.lies h (member_id (after end).roll h end_proper.fits on, on),
            ),
      )

  pub rounds : Rounds F m
  rounds c k table tally xs r c' proper began taken ended =
      let b = begins m.largest c k (length tally) r began in
      let e = finishes m.largest (round_with r xs) (length table) (length tally) c' ended in
      subst (λ d. Leads F m k c table d (last_table c k table tally xs r)) (sym e.is) (leads c k table tally xs r c' proper b taken e)
