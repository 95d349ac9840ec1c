use Rattle.circle.proofs.ids.Masks.{subset_mask}
use Rattle.circle.proofs.ids.IdSet.outside.Goals as goal

pub returns : goal.returns
returns c = rw (← c.self.view_is, ← c.of.view_is) (subset_mask c.self.inside.bits c.of.inside.bits c.self.invariant c.of.invariant)
