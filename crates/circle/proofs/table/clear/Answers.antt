use Rattle.std.proofs.Common.{length, replicate, sym, ◌∙◌, arith}
use Rattle.std.proofs.lemmas.List.{ext_get_or, get_or-replicate, length-replicate}
use Rattle.circle.proofs.table.clear.Goals as goal

pub returns : goal.returns
returns g c =
    let z = g.F.Field.ops.zero in
    let n = length c.args.xs.now in
    ext_get_or z c.loop-x.xs (replicate n z) (omega (arith, length-replicate n z))
    (λ k less. c.loop-x.invariant k (omega arith) ∙ sym (get_or-replicate n k z z (omega arith)))
