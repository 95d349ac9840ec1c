use Rattle.std.proofs.Common.{◌≡◌, ℕ, ◌<◌, length, get_or}
use Rattle.circle.specs.Lagrange.{constant_in}
use Rattle.circle.specs.Open.{faces}
use Rattle.circle.specs.OpenParts.{ids_of}
use Rattle.circle.proofs.basis.Basis.constants.Given as goal

abbrev pub invariant-loop-i : goal.invariant-loop-i
invariant-loop-i g l =
    let F = g.F.Field.ops in
    let ids = ids_of (faces l.self.cards.now) in
    (length l.row ≡ 32)
    × ((k : ℕ) → k < l.i → get_or l.row k F.zero ≡ constant_in F g.F.Field.points.at l.self.set (get_or ids k 0) l.z)
