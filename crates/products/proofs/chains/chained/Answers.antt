use Rattle.std.proofs.Common.{◌≡◌, ap, ◌∙◌, ap₂, add-one, arith}
use Rattle.fields.specs.Byte.{byte_ops}
use Rattle.products.specs.Chains.{chain}
use Rattle.products.proofs.chains.chained.Goals as goal

pub loop-i-init : goal.loop-i-init
unfolding chain
loop-i-init c = (c.one-before.ensures, c.one-last.ensures)

pub loop-i-preserved : goal.loop-i-preserved
unfolding chain
loop-i-preserved c =
    let product = c.mul.ensures ∙ ap₂ byte_ops.mul c.loop-i.invariant.0 c.loop-i.invariant.1 in
    rw add-one (c.loop-i.invariant.1, c.add-next.ensures ∙ ap₂ byte_ops.add product c.low_byte.ensures)

pub returns : goal.returns
returns c = let end : c.loop-i.i ≡ c.args.count = omega arith in c.loop-i.invariant.1 ∙ ap (λ n. (chain n).1) end
