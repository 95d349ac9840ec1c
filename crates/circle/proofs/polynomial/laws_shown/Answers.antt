use Rattle.circle.proofs.polynomial.Laws.{polynomial_laws}
use Rattle.circle.proofs.polynomial.laws_shown.Goals as goal

pub returns : goal.returns
returns g c = polynomial_laws g.F.Field.laws
