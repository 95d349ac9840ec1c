-- A round at one place of table and tally, as the calls find and leave them. Assumes nothing.
use Rattle.std.proofs.Common.{◌≡◌, ℕ, ◌<◌, List, length, Ok, sym, inl, inr, arith}
use lib.ListN.{length-replicate}
use Rattle.std.proofs.lemmas.List.{get_or-replicate, get_or_past}
use Rattle.std.proofs.lemmas.Bool.{cases_lt}
use Rattle.fields.specs.Field.{Ops, FieldLaws, Points}
use Rattle.circle.specs.Polynomial.{eval}
use Rattle.circle.proofs.ids.On.{On, on_part, point_id}
use Rattle.circle.specs.declared.kind.Kind.{Kind}
use Rattle.circle.specs.Contribute.{contribute_round, contribute_tally, grown}
use Rattle.circle.specs.Finish.{finish_table, finished}
use Rattle.circle.specs.Kind.{contributors}
use Rattle.circle.specs.Round.{RoundFacts, after, terms}
use Rattle.circle.specs.RoundLaws.{Proper, Made}
use Rattle.circle.specs.State.{Facts}
use Rattle.circle.specs.Table.{entry, spot, piece, cleared}
use Rattle.circle.proofs.rounds.Gathered.{Shared, Gathered, gathered_none, gathered_more, line_after, lies_alike, gathered_alike, round_begins, round_grows, round_long, round_made, round_keeps, round_ends}
use Rattle.circle.proofs.rounds.Granted.{Allowed, Gives, Finishes}
use Rattle.circle.proofs.table.Grids.{grid_id}
use Rattle.circle.proofs.table.Pieces.{length_piece}

-- what holds at the place p while the round r is open
pub record Running {K : Type 0} (F : Ops K) (m : Points F) (r : RoundFacts) (p : ℕ) (table tally f g : List K) : Type 0 where
  pub within : p < r.circle.places
  pub proper : Proper r.circle
  pub allowed : Allowed m.largest r.circle r.kind
  pub shared : Shared F m.at r.circle (entry F.zero table p) f
  pub gathered : Gathered F m.at r.circle r.kind r.contributed f (entry F.zero tally p) g

-- a cleared tally has zero everywhere
cleared_at : {K : Type 0} (F : Ops K) (tally : List K) (p h : ℕ) → entry F.zero (cleared F tally) p h ≡ F.zero
cleared_at F tally p h =
    elim (cases_lt (spot p h) (length tally)) [
      | inl less ↦ get_or-replicate (length tally) (spot p h) F.zero F.zero less
      | inr past ↦ get_or_past (cleared F tally) (spot p h) F.zero (omega (arith, length-replicate (length tally) F.zero))
    ]

module _ {K : Type 0} {F : Ops K} (laws : FieldLaws F) (m : Points F) where
  pub place_begins : (c : Facts) (k : Kind) (p : ℕ) (table tally f : List K) → p < c.places → Proper c → Allowed m.largest c k
      → Shared F m.at c (entry F.zero table p) f
      → Running F m (record { circle = c; kind = k; contributed = 0 }) p table (cleared F tally) f (gathered_none F k c.threshold)
  place_begins c k p table tally f within proper allowed shared = record {
    within = within;
    proper = proper;
    allowed = allowed;
    shared = shared;
    gathered = gathered_alike laws m c k 0 f (λ h. F.zero) (entry F.zero (cleared F tally) p) (gathered_none F k c.threshold)
        (λ h _. sym (cleared_at F tally p h)) (round_begins laws m c k f);
  }

  pub place_grows : (r : RoundFacts) (p : ℕ) (table tally f g : List K) (i : ℕ) (numbers : List K) (n s : ℕ)
      → Gives m.largest r i (length numbers) n s → Running F m r p table tally f g
      → Running F m (contribute_round (Ok tt) r i) p table (contribute_tally F m.at (Ok tt) r i numbers table tally) f
      (gathered_more F m.at r.kind f g i (piece (terms r) numbers p))
  place_grows r p table tally f g i numbers n s given now =
      let c = r.circle in
      let mine = piece (terms r) numbers p in
      let on : On (contributors r.kind c.roll) i = (point_id m.largest i m.few given.known, given.among) in
      let more = round_grows laws m c r.kind r.contributed (entry F.zero table p) (entry F.zero tally p) f g i mine
      now.proper now.allowed on given.new (length_piece c.places (terms r) p numbers now.within given.numbers_length)
      now.shared now.gathered in
      record {
        within = now.within;
        proper = now.proper;
        allowed = now.allowed;
        shared = now.shared;
        gathered = gathered_alike laws m c r.kind (contribute_round (Ok tt) r i).contributed f (grown F m.at r i numbers table tally p)
            (entry F.zero (contribute_tally F m.at (Ok tt) r i numbers table tally) p) (gathered_more F m.at r.kind f g i mine)
            (λ h id. sym (grid_id (grown F m.at r i numbers table tally) c.places p h F.zero now.within id)) more;
      }

  module _ (r : RoundFacts) (p : ℕ) (table tally f g : List K) where
    abbrev share : ℕ → K
    share = entry F.zero table p

    abbrev tallied : ℕ → K
    tallied = entry F.zero tally p

    pub place_made : Running F m r p table tally f g → Made F m r.kind f (line_after F r.kind f g)
    place_made now =
        round_made laws m r.circle r.contributed share tallied f g now.proper now.shared r.kind now.gathered

    module _ (n s : ℕ) (c : Facts) (e : Finishes m.largest r n s c) (now : Running F m r p table tally f g) where
      -- who has to contribute has done so
      all_on : (h : ℕ) → On (contributors r.kind r.circle.roll) h → On r.contributed h
      all_on h on = on_part (contributors r.kind r.circle.roll) r.contributed h e.all on

      pub place_keeps : eval F (line_after F r.kind f g) F.zero ≡ eval F f F.zero
      place_keeps =
          round_keeps laws m r.circle r.contributed share tallied f g now.proper now.shared r.kind now.allowed all_on now.gathered

      pub place_ends : Shared F m.at (after r) (entry F.zero (finish_table F m.at (Ok c) r table tally) p) (line_after F r.kind f g)
      place_ends = record {
        long = round_long laws m r.circle r.contributed share tallied f g now.proper now.shared r.kind now.gathered;
        lies = lies_alike F m.at (after r).roll (finished F m.at r table tally p)
            (entry F.zero (finish_table F m.at (Ok c) r table tally) p) (line_after F r.kind f g)
            (λ h id. sym (grid_id (finished F m.at r table tally) r.circle.places p h F.zero now.within id))
            (round_ends laws m r.circle r.contributed share tallied f g now.proper now.shared r.kind now.allowed all_on now.gathered);
      }
