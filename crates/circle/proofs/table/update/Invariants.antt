use Rattle.std.proofs.Common.{◌≡◌, ℕ, ◌+◌, ◌/◌, ◌%◌, ◌<◌, ◌≤◌, get_or}
use Rattle.circle.proofs.table.update.Given as goal

-- what is passed is as `new` gives it, and what is still to come is as it was
abbrev pub invariant-loop-k : goal.invariant-loop-k
invariant-loop-k g l =
    let z = g.F.Field.ops.zero in
    record {
      done : (k : ℕ) → k < l.k → goal.N-post g l.new (k / 32) (k % 32 + 1) (get_or l.initial.table k z) (get_or l.table k z);
      left : (k : ℕ) → l.k ≤ k → get_or l.table k z ≡ get_or l.initial.table k z;
    }
