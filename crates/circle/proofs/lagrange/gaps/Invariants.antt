use Rattle.std.proofs.Common.{◌≡◌, true, map}
use Rattle.std.specs.List.{list_all}
use Rattle.circle.specs.Ids.{has_point, members}
use Rattle.circle.specs.LagrangeParts.{gaps}
use Rattle.circle.proofs.lagrange.gaps.Given as goal

-- the ids still to come have points, and the product so far and theirs come to the whole
abbrev pub invariant-loop-id : goal.invariant-loop-id
invariant-loop-id g l =
    let m = g.F.Field in
    let rest = members l.id-iterator.rest in
    (goal.iterator-loop-id g).can_next l.id-iterator × (goal.iterator-loop-id g).is_finite l.id-iterator
    × (list_all (has_point m.points.largest) rest ≡ true)
    × (m.ops.mul l.product (gaps m.ops (map m.points.at rest) l.z) ≡ gaps m.ops (map m.points.at (members l.fn.set)) l.z)
