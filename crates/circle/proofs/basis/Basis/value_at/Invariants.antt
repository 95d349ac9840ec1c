use Rattle.std.proofs.Common.{◌≡◌, [], map, take, drop}
use Rattle.circle.specs.Open.{faces, column}
use Rattle.circle.specs.OpenParts.{ids_of, Constants}
use Rattle.circle.proofs.polynomial.Lagrange.{combine}
use Rattle.circle.proofs.basis.Basis.value_at.Given as goal

-- the value so far and Lagrange's sum over the cards that are left come to the whole sum
abbrev pub invariant-loop-i : goal.invariant-loop-i
invariant-loop-i g l =
    let F = g.F.Field.ops in
    let at = g.F.Field.points.at in
    let cs = faces l.self.cards.now in
    (z : g.row.F.Denot) → Constants F at l.self.set (ids_of cs) z l.constants
    → F.add l.sum (combine F (map at (ids_of (take l.i cs))) (column F at l.p (drop l.i cs)) z) ≡ combine F [] (column F at l.p cs) z
