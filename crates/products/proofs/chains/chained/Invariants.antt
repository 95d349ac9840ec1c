use Rattle.std.proofs.Common.{◌≡◌}
use Rattle.products.specs.Chains.{chain}
use Rattle.products.proofs.chains.chained.Given as goal

abbrev pub invariant-loop-i : goal.invariant-loop-i
invariant-loop-i l = (l.before ≡ (chain l.i).0) × (l.last ≡ (chain l.i).1)
