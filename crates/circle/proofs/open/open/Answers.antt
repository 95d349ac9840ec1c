use Rattle.std.proofs.Common.{arith}
use Rattle.circle.proofs.open.Cards.{card_steps}
use Rattle.circle.proofs.open.open.Goals as goal

pub all_agree-requires-clause-long : goal.all_agree-requires-clause-long
all_agree-requires-clause-long g c = rw c.new-basis.ensures.places (grind (arith, card_steps))
