use Rattle.std.proofs.Common.{rules}
use Rattle.std.proofs.lemmas.Iterator.{YieldsList-from_slice, YieldsList-from_map}
use Rattle.std.proofs.lemmas.Iterator.Consumers.{YieldsList-at}
use Rattle.std.proofs.lemmas.Iterator.Adapters.{items_from_extend}
use Rattle.station.proofs.desk.steps.add_numbers.Goals as goal

pub returns : goal.returns
returns g c =
    let number = g.F.Field.finite.number in
    let added =
    items_from_extend c.extend.result c.extend.ensures.ran
    (YieldsList-from_map _ number (YieldsList-at c.map.ensures.source (YieldsList-from_slice c.args.xs.now c.iter.ensures.rest)) c.map.ensures.closure (λ x r q k. search rules)) in
    search rules
