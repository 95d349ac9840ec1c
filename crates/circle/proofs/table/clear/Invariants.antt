use Rattle.std.proofs.Common.{◌≡◌, ℕ, ◌<◌, get_or}
use Rattle.circle.proofs.table.clear.Given as goal

abbrev pub invariant-loop-x : goal.invariant-loop-x
invariant-loop-x g l = let z = g.F.Field.ops.zero in (k : ℕ) → k < l.x-index → get_or l.xs k z ≡ z
