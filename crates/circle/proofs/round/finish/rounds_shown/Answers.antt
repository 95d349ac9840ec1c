use Rattle.circle.proofs.round.finish.rounds_shown.Goals as goal
use Rattle.circle.proofs.rounds.Whole.{rounds}

pub returns : goal.returns
returns g c = rounds g.F.Field.laws g.F.Field.points
