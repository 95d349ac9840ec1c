use Rattle.std.proofs.Common.{◌≡◌, ℕ, ◌<◌, get_or}
use Rattle.circle.specs.Open.{faces, column}
use Rattle.circle.specs.Polynomial.{interpolated}
use Rattle.circle.proofs.basis.Basis.interpolate.Given as goal

abbrev pub invariant-loop-p : goal.invariant-loop-p
invariant-loop-p g l =
    let F = g.F.Field.ops in
    (k : ℕ) → k < l.p → get_or l.values k F.zero ≡ interpolated F (column F g.F.Field.points.at k (faces l.self.cards.now)) l.fn.z
