use Rattle.std.proofs.Common.{length, arith}
use Rattle.std.proofs.lemmas.List.FromFn.{fill_by_all}
use Rattle.circle.proofs.basis.Basis.interpolate.Goals as goal

pub returns : goal.returns
returns g c = fill_by_all _ c.loop-p.values (length c.args.values.now) g.F.Field.ops.zero (omega arith) (λ k less. c.loop-p.invariant k (omega arith))
