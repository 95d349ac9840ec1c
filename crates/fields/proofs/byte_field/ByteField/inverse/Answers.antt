use Rattle.std.proofs.Common.{refl}
use Rattle.fields.proofs.byte_field.ByteField.inverse.Goals as goal

pub returns-in_err-exponent : goal.returns-in_err-exponent
returns-in_err-exponent c = rw c.from_residual.ensures (c.in_err-exponent.ensures.zero c.args.self refl)
