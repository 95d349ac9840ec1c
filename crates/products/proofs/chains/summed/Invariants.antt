use Rattle.std.proofs.Common.{◌≡◌}
use Rattle.products.specs.Chains.{sum_of}
use Rattle.products.proofs.chains.summed.Given as goal

abbrev pub invariant-loop-i : goal.invariant-loop-i
invariant-loop-i l = l.sum ≡ sum_of l.i
