use Rattle.circle.proofs.deal.Hiding.{hides}
use Rattle.circle.proofs.deal.Opens.{opens}
use Rattle.circle.proofs.deal.laws_shown.Goals as goal

pub returns : goal.returns
returns g c =
    let m = g.F.Field in
    record { opens = opens m.laws m.points m.equality; hides = hides m.laws m.points }
