use Rattle.std.proofs.Common.{◌≡◌, ℕ, length, ap, ◌∙◌, refl, arith, rules}
use Rattle.circle.specs.Finish.{finished, share_after}
use Rattle.circle.specs.Round.{round_facts, after}
use Rattle.circle.specs.Table.{entry, only}
use Rattle.circle.proofs.round.finish.Shares.{share_after_at}
use Rattle.circle.proofs.rounds.Granted.{finishes}
use Rattle.circle.proofs.table.Grids.{grid_is}
use Rattle.circle.proofs.round.Round.finish.Goals as goal

pub returns-in-Ok-clause-table : goal.returns-in-Ok-clause-table
returns-in-Ok-clause-table g c =
    let m = g.F.Field in
    let z = m.ops.zero in
    let r = round_facts c.args.self in
    let t = c.args.table.now in
    let tally = c.args.tally.now in
    let met = finishes m.points.largest r (length t) (length tally) (after r) c.in-Ok.ensures.0 in
    grid_is (finished m.ops m.points.at r t tally) c.update.new.table r.circle.places z (omega arith)
    (λ p h less low high.
    let now = λ (set : ℕ) (share : ℕ → g.row.F.Denot). only m.ops set h (share_after m.ops m.points.at r.kind share (entry z tally p) h) in
    let called = c.update.ensures p h (omega arith) low high in
    let new : entry z c.update.new.table p h ≡ now c.in-Ok.holders.set (λ _. entry z t p h) = search rules in
    new ∙ ap (λ s. now s (λ _. entry z t p h)) c.in-Ok.ensures.1
    ∙ ap (only m.ops (after r).roll h) (share_after_at m.ops m.points.at r.kind (λ _. entry z t p h) (entry z t p) (entry z tally p) h refl))
