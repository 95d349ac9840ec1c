use Rattle.std.proofs.Common.{◌≡◌, map, ap, ◌∙◌}
use Rattle.circle.specs.Open.{faces}
use Rattle.script.specs.Steps.{cards, stated}
use Rattle.station.specs.Desk.{face_of}
use Rattle.station.proofs.desk.Settled.open.Goals as goal

pub returns : goal.returns
returns g c =
    let m = g.F.Field in
    let listed : faces c.as_slice-2.result.now ≡ map (face_of m.ops m.finite m.points) (map stated (cards c.args.tokens.now)) =
    ap faces c.as_slice-2.ensures.value ∙ c.in_ok-cards.ensures in
    rw (← listed) c.open_cards.ensures
