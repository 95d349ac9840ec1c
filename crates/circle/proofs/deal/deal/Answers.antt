use Rattle.std.proofs.Common.{◌≡◌, ◌-◌, get_or, ap, ◌∙◌, arith, rules}
use Rattle.std.proofs.lemmas.List.{get_or_read}
use Rattle.circle.specs.Deal.{dealt, share_of}
use Rattle.circle.specs.Polynomial.{polynomial}
use Rattle.circle.specs.Table.{entry, piece}
use Rattle.circle.proofs.table.Grids.{grid_is}
use Rattle.circle.proofs.deal.deal.Goals as goal

pub returns-clause-table : goal.returns-clause-table
returns-clause-table g c =
    let m = g.F.Field in
    let z = m.ops.zero in
    let key = c.args.key.now in
    let t = c.args.threshold - 1 in
    let roll = c.args.roll in
    grid_is (dealt m.ops m.points.at roll t key c.args.numbers.now) c.update.new.table c.args.places z (omega arith)
    (λ p h less low high.
    let share = λ (first : g.row.F.Denot). share_of m.ops m.points.at roll h (polynomial m.ops first (piece t c.args.numbers.now p)) in
    let new = c.update.ensures p h (omega arith) low high in
    let read : (x : g.row.F.Denot) × (x ≡ get_or key p x) × (entry z c.update.new.table p h ≡ share x) = search rules in
    read.2 ∙ ap share (get_or_read key p read.0 (omega arith) read.1 z))
