use Rattle.std.proofs.Common.{[], sym, ap, ◌∙◌, arith}
use Rattle.std.proofs.lemmas.List.{get_or_at}
use Rattle.std.proofs.lemmas.Iterator.{YieldsList-from_slice}
use Rattle.std.proofs.lemmas.Iterator.Consumers.{YieldsList-from_copied, YieldsList-at}
use Rattle.fields.specs.Field.{sub}
use Rattle.circle.proofs.table.Totals.{sum_yielded}
use Rattle.circle.proofs.round.contribute.portion_at.Goals as goal

pub returns-then-k-numbers-2 : goal.returns-then-k-numbers-2
returns-then-k-numbers-2 g c =
    let m = g.F.Field in
    let xs = c.args.numbers.now in
    let numbers = YieldsList-at c.copied.ensures.source (YieldsList-from_slice xs c.iter.ensures.rest) in
    let total = sum_yielded m.ops c.sum.result c.sum.ensures (YieldsList-from_copied numbers) in
    g.met.F.Field.sub_is _ _ _ c.sub.ensures ∙ ap (sub m.ops c.args.whole) total ∙ sym (get_or_at xs _ [] m.ops.zero c.args.k (omega arith))
