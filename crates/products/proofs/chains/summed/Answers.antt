use Rattle.std.proofs.Common.{◌∙◌, ap₂, add-one}
use Rattle.fields.specs.Byte.{byte_ops}
use Rattle.products.specs.Chains.{sum_of}
use Rattle.products.proofs.chains.summed.Goals as goal

pub loop-i-init : goal.loop-i-init
unfolding sum_of
loop-i-init c = c.zero-sum.ensures

pub loop-i-preserved : goal.loop-i-preserved
unfolding sum_of
loop-i-preserved c =
    let product = c.mul.ensures ∙ ap₂ byte_ops.mul c.low_byte.ensures c.low_byte-in-loop-i.ensures in
    rw add-one (c.add-sum.ensures ∙ ap₂ byte_ops.add c.loop-i.invariant product)
