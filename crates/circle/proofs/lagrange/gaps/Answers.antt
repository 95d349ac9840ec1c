use Rattle.std.proofs.Common.{rules}
use Rattle.circle.proofs.lagrange.gaps.Goals as goal

pub loop-id-preserved : goal.loop-id-preserved
loop-id-preserved g c =
    let scaled = g.met.F.Field.mul_is in
    let less = g.met.F.Field.sub_is in
    search rules
