-- The theorems on polynomials, together. Assumes nothing.
use Rattle.std.proofs.Common.{sym, ◌∙◌}
use Rattle.fields.specs.Field.{Ops, FieldLaws}
use Rattle.circle.specs.Polynomial.{PolynomialLaws}
use Rattle.circle.proofs.polynomial.ConstantLaws.{interpolated_combine}
use Rattle.circle.proofs.polynomial.Hiding.{hiding}
use Rattle.circle.proofs.polynomial.Lagrange.{interpolate, lagrange}
use Rattle.circle.proofs.polynomial.Unique.{unique}

pub polynomial_laws : {K : Type 0} {F : Ops K} → FieldLaws F → PolynomialLaws F
polynomial_laws {K} {F} laws = record {
  unique = unique laws;
  lagrange = λ shares f z d n h. lagrange laws shares f z d n h ∙ sym (interpolated_combine F z shares);
  through = interpolate laws;
  hiding = hiding laws;
}
