use Rattle.std.proofs.Common.{ap, ◌∙◌, arith}
use Rattle.circle.specs.Ids.{members}
use Rattle.circle.proofs.ids.Laws.{members_empty}
use Rattle.circle.proofs.ids.Masks.{members_lowest}
use Rattle.circle.proofs.ids.IdSet.lowest.Goals as goal

pub returns-then-self-eq0 : goal.returns-then-self-eq0
returns-then-self-eq0 c = rw (← c.self.view_is) (ap members c.if-self-eq0.true ∙ members_empty)

pub returns : goal.returns
returns c = rw (← c.self.view_is) (members_lowest c.self.inside.bits c.self.invariant (omega arith))
