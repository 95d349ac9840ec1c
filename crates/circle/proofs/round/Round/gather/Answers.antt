use Rattle.std.proofs.Common.{◌≡◌, ℕ, ◌+◌, ◌-◌, ◌*◌, ◌<◌, ◌≤◌, get_or, ap, ◌∙◌, ap₂, arith, rules}
use Rattle.std.proofs.lemmas.List.{get_or_read}
use Rattle.circle.specs.Contribute.{grown, portion, portions}
use Rattle.circle.specs.Deal.{share_of}
use Rattle.circle.specs.Ids.{members}
use Rattle.circle.specs.Kind.{contributors, roll_after}
use Rattle.circle.specs.Lagrange.{constant_in}
use Rattle.circle.specs.Polynomial.{polynomial, value}
use Rattle.circle.specs.Round.{RoundFacts, round_facts, after, terms}
use Rattle.circle.specs.Table.{entry, only, piece}
use Rattle.circle.proofs.lagrange.Sets.{part_points, newcomer_point}
use Rattle.circle.proofs.polynomial.Loops.{point_known}
use Rattle.circle.proofs.round.contribute.Parts.{renewed_part, changed_part, admitted_part}
use Rattle.circle.proofs.rounds.Granted.{Gives, gives}
use Rattle.circle.proofs.table.Grids.{grid_is, piece_end}
use Rattle.circle.proofs.round.Round.gather.Goals as goal

-- the numbers of a place stand within all numbers
numbers_end : {largest : ℕ} {r : RoundFacts} {id numbers table tally : ℕ} → Gives largest r id numbers table tally
    → (d p : ℕ) → d ≡ terms r → p < r.circle.places → p * d + d ≤ numbers
numbers_end {r = r} ok d p long less = omega (arith, ok.numbers_length, piece_end p r.circle.places d less, ap (λ t. r.circle.places * t) long)

pub add_each-requires : goal.add_each-requires
add_each-requires g c = λ p h within low high.
    let r = round_facts c.args.self.now in
    let ok = gives g.F.Field.points.largest r c.args.id _ _ _ c.requires.accepted in
    let long : c.after.result.threshold - 1 ≡ terms r = ap (λ (f : _). f.threshold - 1) c.after.ensures in
    let end = numbers_end ok _ p long (omega (arith, ok.tally_length)) in
    search rules

pub add_each-requires-in-Change : goal.add_each-requires-in-Change
add_each-requires-in-Change g c = λ p h within low high.
    let r = round_facts c.args.self.now in
    let ok = gives g.F.Field.points.largest r c.args.id _ _ _ c.requires.accepted in
    let long : c.after.result.threshold - 1 ≡ terms r = ap (λ (f : _). f.threshold - 1) c.after.ensures in
    let end = numbers_end ok _ p long (omega (arith, ok.tally_length)) in
    let id = point_known g.F.Field.points c.args.id ok.known in
    search rules

pub add_each-requires-in-Admission : goal.add_each-requires-in-Admission
add_each-requires-in-Admission g c = λ p h within low high.
    let r = round_facts c.args.self.now in
    let ok = gives g.F.Field.points.largest r c.args.id _ _ _ c.requires.accepted in
    let long : c.after.result.threshold - 1 ≡ terms r = ap (λ (f : _). f.threshold - 1) c.after.ensures in
    let end = numbers_end ok _ p long (omega (arith, ok.tally_length)) in
    let id = point_known g.F.Field.points c.args.id ok.known in
    search rules

pub constant_in-constant-requires-clause-known : goal.constant_in-constant-requires-clause-known
constant_in-constant-requires-clause-known g c =
    let r = round_facts c.args.self.now in
    let m = g.F.Field.points in
    let ok = gives m.largest r c.args.id _ _ _ c.requires.accepted in
    let points = part_points (contributors r.kind r.circle.roll) (roll_after r.kind r.circle.roll) m.largest c.args.self.now.among ok.roll_known in
    search rules

pub constant_for-constant-requires : goal.constant_for-constant-requires
constant_for-constant-requires g c =
    let r = round_facts c.args.self.now in
    let m = g.F.Field.points in
    let ok = gives m.largest r c.args.id _ _ _ c.requires.accepted in
    let points = part_points (contributors r.kind r.circle.roll) (roll_after r.kind r.circle.roll) m.largest c.args.self.now.among ok.roll_known in
    record { newcomer = search (rules, newcomer_point); known = search rules; own = search rules }

pub returns-in-Refresh : goal.returns-in-Refresh
returns-in-Refresh g c =
    let m = g.F.Field in
    let z = m.ops.zero in
    let r = round_facts c.args.self.now in
    let i = c.args.id in
    let ok = gives m.points.largest r i _ _ _ c.requires.accepted in
    let long : c.after.result.threshold - 1 ≡ terms r = ap (λ (f : _). f.threshold - 1) c.after.ensures in
    let t = c.args.tally.now in
    grid_is (grown m.ops m.points.at r i c.args.numbers.now c.args.table.now t) c.add_each.new.tally r.circle.places z (omega (arith, ok.tally_length))
    (λ p h less low high.
    let given = λ (set d : ℕ). only m.ops set h (value m.ops (piece d c.args.numbers.now p) (m.points.at h)) in
    let added = c.add_each.ensures p h (omega (arith, ok.tally_length)) low high in
    let part : added.0 ≡ given c.args.holders.now.set (c.after.result.threshold - 1) = let called = added.1 in search rules in
    let rest = piece (terms r) c.args.numbers.now p in
    added.2 ∙ ap (m.ops.add (entry z t p h)) (part ∙ ap₂ given c.requires.holders long
    ∙ renewed_part m.laws.ring m.points.at r.kind r.circle.roll i (entry z c.args.table.now p i) rest h c.in-Refresh.is))

pub returns-in-Change : goal.returns-in-Change
returns-in-Change g c =
    let m = g.F.Field in
    let z = m.ops.zero in
    let r = round_facts c.args.self.now in
    let i = c.args.id in
    let ok = gives m.points.largest r i _ _ _ c.requires.accepted in
    let id = point_known m.points i ok.known in
    let long : c.after.result.threshold - 1 ≡ terms r = ap (λ (f : _). f.threshold - 1) c.after.ensures in
    let t = c.args.tally.now in
    let table = c.args.table.now in
    let helpers = c.in-Change.helpers in
    grid_is (grown m.ops m.points.at r i c.args.numbers.now table t) c.add_each-in-Change.new.tally r.circle.places z (omega (arith, ok.tally_length))
    (λ p h less low high.
    let given = λ (set d : ℕ) (share : g.row.F.Denot).
    m.ops.mul (constant_in m.ops m.points.at helpers i z) (share_of m.ops m.points.at set h (polynomial m.ops share (piece d c.args.numbers.now p))) in
    let added = c.add_each-in-Change.ensures p h (omega (arith, ok.tally_length)) low high in
    let part : (x : g.row.F.Denot) × (x ≡ get_or table (32 * p + i - 1) x) × (added.0 ≡ given c.args.holders.now.set (c.after.result.threshold - 1) x) =
    let called = added.1 in search rules in
    let share = get_or_read table (32 * p + i - 1) part.0 (omega (arith, ok.table_length, m.points.few)) part.1 z in
    let rest = piece (terms r) c.args.numbers.now p in
    added.2 ∙ ap (m.ops.add (entry z t p h)) (part.2 ∙ ap₂ (λ s d. given s d part.0) c.requires.holders long ∙ ap (given (after r).roll (terms r)) share
    ∙ changed_part m.laws.ring m.points.at r.kind r.circle.roll i (entry z table p i) rest h c.in-Change.threshold helpers c.in-Change.is))

pub returns-in-Admission : goal.returns-in-Admission
returns-in-Admission g c =
    let m = g.F.Field in
    let z = m.ops.zero in
    let r = round_facts c.args.self.now in
    let i = c.args.id in
    let ok = gives m.points.largest r i _ _ _ c.requires.accepted in
    let id = point_known m.points i ok.known in
    let long : c.after.result.threshold - 1 ≡ terms r = ap (λ (f : _). f.threshold - 1) c.after.ensures in
    let t = c.args.tally.now in
    let table = c.args.table.now in
    let helpers = c.in-Admission.helpers in
    let newcomer = c.in-Admission.newcomer in
    grid_is (grown m.ops m.points.at r i c.args.numbers.now table t) c.add_each-in-Admission.new.tally r.circle.places z (omega (arith, ok.tally_length))
    (λ p h less low high.
    let given = λ (d : ℕ) (share : g.row.F.Denot).
    portion m.ops m.points.at (members helpers)
    (portions m.ops m.points.at (m.ops.mul (constant_in m.ops m.points.at helpers i (m.points.at newcomer)) share) (piece d c.args.numbers.now p)) h in
    let added = c.add_each-in-Admission.ensures p h (omega (arith, ok.tally_length)) low high in
    let part : (x : g.row.F.Denot) × (x ≡ get_or table (32 * p + i - 1) x) × (added.0 ≡ given (c.after.result.threshold - 1) x) =
    let called = added.1 in search rules in
    let share = get_or_read table (32 * p + i - 1) part.0 (omega (arith, ok.table_length, m.points.few)) part.1 z in
    let rest = piece (terms r) c.args.numbers.now p in
    added.2 ∙ ap (m.ops.add (entry z t p h)) (part.2 ∙ ap₂ given long share
    ∙ admitted_part m.laws.ring m.points.at r.kind r.circle.roll i (entry z table p i) rest h newcomer helpers c.in-Admission.is))
