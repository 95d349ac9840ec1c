-- What a call of a round that is not denied has met, by name: the one file that knows the order of the tests. Assumes nothing.
use Rattle.std.proofs.Common.{◌≡◌, ℕ, ◌*◌, ◌≤◌, true, false, not, ◌||◌, eqb, leb, length, Ok, arith}
use Rattle.std.proofs.lemmas.Bool.{or_parts, and_parts, not-true, not-false, leb-true, eqb-true}
use Rattle.circle.specs.Ids.{member, members, removed, size, within_largest, subset, has_point}
use Rattle.circle.proofs.ids.Laws.{inserted_fits, removed_fits, size_inserted, members_size}
use Rattle.circle.proofs.ids.On.{On, on_part, on_removed, point_id, within_fits}
use Rattle.circle.specs.declared.kind.Kind.{Kind}
use Rattle.circle.specs.declared.kind.Kind.TheVariants.{Refresh, Dismissal, Change, Admission}
use Rattle.circle.specs.Begin.{begin_answer}
use Rattle.circle.specs.Contribute.{contribute_answer}
use Rattle.circle.specs.Finish.{finish_answer}
use Rattle.circle.specs.Kind.{contributors, ids_known, threshold_fits, on_roll, newcomer_new, helpers_enough, enough_stay, epoch_left}
use Rattle.circle.specs.Round.{RoundFacts, after, terms}
use Rattle.circle.specs.RoundLaws.{Proper}
use Rattle.circle.specs.State.{Facts}
use Rattle.circle.proofs.deal.Answered.{passed}

-- ## A beginning

-- what a kind of round asks of the circle; it holds as long as the round is open
pub record Allowed (largest : ℕ) (c : Facts) (k : Kind) : Type 0 where
  pub known : ids_known k largest ≡ true
  pub fits : threshold_fits k c.roll ≡ true
  pub on : on_roll k c.roll ≡ true
  pub new : newcomer_new k c.roll ≡ true
  pub enough : helpers_enough k c.threshold ≡ true
  pub stay : enough_stay k c.roll c.threshold ≡ true
  pub left : epoch_left k c.epoch ≡ true

pub record Begins (largest : ℕ) (c : Facts) (k : Kind) (tally : ℕ) (r : RoundFacts) : Type 0 where
  pub is : r ≡ record { circle = c; kind = k; contributed = 0 }
  pub allowed : Allowed largest c k
  pub tally_length : tally ≡ 32 * c.places

pub begins : (largest : ℕ) (c : Facts) (k : Kind) (tally : ℕ) (r : RoundFacts) → begin_answer largest c k tally ≡ Ok r → Begins largest c k tally r
begins largest c k tally r ok =
    let t1 = passed (not (ids_known k largest)) _ _ r ok in
    let t2 = passed (not (threshold_fits k c.roll)) _ _ r t1.1 in
    let t3 = passed (not (eqb tally (32 * c.places))) _ _ r t2.1 in
    let t4 = passed (not (on_roll k c.roll)) _ _ r t3.1 in
    let t5 = passed (not (newcomer_new k c.roll)) _ _ r t4.1 in
    let t6 = passed (not (helpers_enough k c.threshold)) _ _ r t5.1 in
    let t7 = passed (not (enough_stay k c.roll c.threshold)) _ _ r t6.1 in
    let t8 = passed (not (epoch_left k c.epoch)) _ _ r t7.1 in
    record {
      is = cc;
      allowed = record {
        known = not-false _ t1.0;
        fits = not-false _ t2.0;
        on = not-false _ t4.0;
        new = not-false _ t5.0;
        enough = not-false _ t6.0;
        stay = not-false _ t7.0;
        left = not-false _ t8.0;
      };
      tally_length = eqb-true _ _ (not-false _ t3.0);
    }

-- ## A contribution

pub record Gives (largest : ℕ) (r : RoundFacts) (id numbers table tally : ℕ) : Type 0 where
  pub known : has_point largest id ≡ true
  pub roll_known : within_largest (after r).roll largest ≡ true
  pub numbers_length : numbers ≡ r.circle.places * terms r
  pub table_length : table ≡ 32 * r.circle.places
  pub tally_length : tally ≡ 32 * r.circle.places
  pub among : member (contributors r.kind r.circle.roll) id ≡ true
  pub new : member r.contributed id ≡ false

pub gives : (largest : ℕ) (r : RoundFacts) (id numbers table tally : ℕ) → contribute_answer largest r id numbers table tally ≡ Ok tt
    → Gives largest r id numbers table tally
gives largest r id numbers table tally ok =
    let places = r.circle.places in
    let t1 = passed (not (has_point largest id) || not (within_largest (after r).roll largest)) _ _ tt ok in
    let t2 = passed (not (eqb numbers (places * terms r)) || (not (eqb table (32 * places)) || not (eqb tally (32 * places)))) _ _ tt t1.1 in
    let t3 = passed (not (member (contributors r.kind r.circle.roll) id)) _ _ tt t2.1 in
    let t4 = passed (member r.contributed id) _ _ tt t3.1 in
    let ids = or_parts (not (has_point largest id)) _ t1.0 in
    let first = or_parts (not (eqb numbers (places * terms r))) _ t2.0 in
    let second = or_parts (not (eqb table (32 * places))) _ first.1 in
    record {
      known = not-false _ ids.0;
      roll_known = not-false _ ids.1;
      numbers_length = eqb-true _ _ (not-false _ first.0);
      table_length = eqb-true _ _ (not-false _ second.0);
      tally_length = eqb-true _ _ (not-false _ second.1);
      among = not-false _ t3.0;
      new = t4.0;
    }

-- ## An end

pub record Finishes (largest : ℕ) (r : RoundFacts) (table tally : ℕ) (c : Facts) : Type 0 where
  pub is : c ≡ after r
  pub roll_known : within_largest (after r).roll largest ≡ true
  pub table_length : table ≡ 32 * r.circle.places
  pub tally_length : tally ≡ 32 * r.circle.places
  pub all : subset (contributors r.kind r.circle.roll) r.contributed ≡ true

pub finishes : (largest : ℕ) (r : RoundFacts) (table tally : ℕ) (c : Facts) → finish_answer largest r table tally ≡ Ok c
    → Finishes largest r table tally c
finishes largest r table tally c ok =
    let places = r.circle.places in
    let t1 = passed (not (within_largest (after r).roll largest)) _ _ c ok in
    let t2 = passed (not (eqb table (32 * places)) || not (eqb tally (32 * places))) _ _ c t1.1 in
    let t3 = passed (not (subset (contributors r.kind r.circle.roll) r.contributed)) _ _ c t2.1 in
    let both = or_parts (not (eqb table (32 * places))) _ t2.0 in
    record {
      is = cc;
      roll_known = not-false _ t1.0;
      table_length = eqb-true _ _ (not-false _ both.0);
      tally_length = eqb-true _ _ (not-false _ both.1);
      all = not-false _ t3.0;
    }

-- ## What each kind asks

module _ {largest : ℕ} {c : Facts} where
  pub dismissal_leaves : (leaver : ℕ) → Allowed largest c (Dismissal leaver) → c.threshold ≤ size (removed c.roll leaver)
  dismissal_leaves leaver a = leb-true _ _ a.stay

  pub change_bounds : (t helpers : ℕ) → Allowed largest c (Change t helpers) → (2 ≤ t) × (t ≤ size c.roll)
  change_bounds t helpers a =
      let both = and_parts (leb 2 t) (leb t (size c.roll)) a.fits in (leb-true _ _ both.0, leb-true _ _ both.1)

  pub newcomer_known : (newcomer helpers : ℕ) → Allowed largest c (Admission newcomer helpers) → has_point largest newcomer ≡ true
  newcomer_known newcomer helpers a = (and_parts (has_point largest newcomer) _ a.known).0

  pub admission_helpers : (newcomer helpers : ℕ) → Allowed largest c (Admission newcomer helpers) → within_largest helpers largest ≡ true
  admission_helpers newcomer helpers a = (and_parts (has_point largest newcomer) _ a.known).1

  pub admission_exact : (newcomer helpers : ℕ) → largest ≤ 32 → Allowed largest c (Admission newcomer helpers)
      → length (members helpers) ≡ c.threshold
  admission_exact newcomer helpers few a =
      omega (arith, eqb-true _ _ a.enough, members_size helpers (within_fits helpers largest few (admission_helpers newcomer helpers a)))

  -- every contributor is on the roll
  pub contributor_on : (k : Kind) → Allowed largest c k → (h : ℕ) → On (contributors k c.roll) h → On c.roll h
  contributor_on Refresh a h on = on
  contributor_on (Dismissal leaver) a h on = on_removed c.roll leaver h on
  contributor_on (Change t helpers) a h on = on_part helpers c.roll h a.on on
  contributor_on (Admission newcomer helpers) a h on = on_part helpers c.roll h a.on on

  -- there are as many contributors as the threshold
  pub contributors_enough : (k : Kind) → largest ≤ 32 → Proper c → Allowed largest c k
      → c.threshold ≤ length (members (contributors k c.roll))
  contributors_enough Refresh few p a = omega (arith, p.high, members_size c.roll p.fits)
  contributors_enough (Dismissal leaver) few p a =
      omega (arith, dismissal_leaves leaver a, members_size (removed c.roll leaver) (removed_fits c.roll leaver p.fits))
  contributors_enough (Change t helpers) few p a =
      omega (arith, leb-true _ _ a.enough, members_size helpers (within_fits helpers largest few a.known))
  contributors_enough (Admission newcomer helpers) few p a = omega (arith, admission_exact newcomer helpers few a)

-- the circle that a round leads to is as proper as the one it began with
pub after_proper : {largest : ℕ} {c : Facts} (k : Kind) (C : ℕ) → largest ≤ 32 → Allowed largest c k → Proper c
    → Proper (after (record { circle = c; kind = k; contributed = C }))
after_proper Refresh C few a p = record { fits = p.fits; low = p.low; high = p.high }
after_proper {c = c} (Dismissal leaver) C few a p =
    record { fits = removed_fits c.roll leaver p.fits; low = p.low; high = dismissal_leaves leaver a }
after_proper (Change t helpers) C few a p =
    let bounds = change_bounds t helpers a in record { fits = p.fits; low = bounds.0; high = bounds.1 }
after_proper {largest} {c} (Admission newcomer helpers) C few a p =
    let id = point_id largest newcomer few (newcomer_known newcomer helpers a) in
    record {
      fits = inserted_fits c.roll newcomer p.fits;
      low = p.low;
      high = omega (arith, p.high, size_inserted c.roll newcomer id (not-true _ a.new));
    }
