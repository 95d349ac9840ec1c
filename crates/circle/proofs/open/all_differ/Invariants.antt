use Rattle.std.proofs.Common.{◌≡◌, drop}
use Rattle.circle.specs.Open.{faces, ids_differ}
use Rattle.circle.proofs.open.all_differ.Given as goal

abbrev pub invariant-loop-i : goal.invariant-loop-i
invariant-loop-i g l = ids_differ (faces (drop l.i l.cards)) ≡ ids_differ (faces l.cards)
