use Rattle.std.proofs.Common.{◌≡◌, ◌*◌, ◌%◌, ◌^◌, ◌<◌}
use Rattle.fields.proofs.residue.Residue.raised.Given as goal

-- what is multiplied so far and what is left come to the whole power
abbrev pub invariant-loop-left : goal.invariant-loop-left
invariant-loop-left g l =
    (l.result < g.row.P) × (l.square < g.row.P)
    × ((l.result * l.square ^ l.left) % g.row.P ≡ (l.initial.square ^ l.initial.left) % g.row.P)

abbrev pub decreases-loop-left : goal.decreases-loop-left
decreases-loop-left g l = l.left
