use Rattle.std.proofs.Common.{get_or, sym, ap, ◌∙◌, arith}
use Rattle.circle.specs.Contribute.{portions}
use Rattle.circle.proofs.round.contribute.Portions.{portion_ranked, portion_none}
use Rattle.circle.proofs.round.contribute.portion_of.Goals as goal

pub returns-then-contains : goal.returns-then-contains
returns-then-contains g c =
    let m = g.F.Field in
    let xs = portions m.ops m.points.at c.args.whole c.args.numbers.now in
    c.portion_at.ensures ∙ ap (λ k. get_or xs k m.ops.zero) c.rank.ensures
    ∙ sym (portion_ranked m.ops m.points.at c.args.helpers c.args.h xs (omega arith) (sym c.if-contains.ensures))

pub returns-else-contains : goal.returns-else-contains
returns-else-contains g c =
    let m = g.F.Field in
    let xs = portions m.ops m.points.at c.args.whole c.args.numbers.now in
    c.zero.ensures ∙ sym (portion_none m.ops m.points.at c.args.helpers c.args.h xs (sym c.if-contains.ensures))
