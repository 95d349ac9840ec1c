use Rattle.std.proofs.Common.{◌≡◌, ℕ, ◌<◌, get_or}
use Rattle.circle.specs.Table.{entry}
use Rattle.circle.proofs.card.show.copy_shares.Given as goal

abbrev pub invariant-loop-p : goal.invariant-loop-p
invariant-loop-p g l = let zero = g.F.Field.ops.zero in (k : ℕ) → k < l.p → get_or l.shares k zero ≡ entry zero l.table k l.id
