use Rattle.station.proofs.station.Dealing.{stays_dealing}
use Rattle.station.proofs.station.lines.dealing_shown.Goals as goal

pub returns : goal.returns
returns c = stays_dealing
