use Rattle.std.proofs.Common.{ap, length}
use Rattle.std.proofs.iter.runs.Sources.{as_is, from_front}
use Rattle.circle.specs.Ids.{members}
use Rattle.circle.proofs.ids.IdSet.members.Goals as goal

pub returns-clause-runs : goal.returns-clause-runs
returns-clause-runs c = λ p s. as_is p _ (from_front _ (λ h. h) (λ t. members t.rest) (λ t u e. ap length e) (λ t h u e. e) p s)
