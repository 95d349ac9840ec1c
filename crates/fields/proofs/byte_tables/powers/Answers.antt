use Rattle.std.proofs.Common.{refl}
use Rattle.fields.specs.Byte.{product, remainder, times}
use Rattle.fields.proofs.byte_tables.Tables.{threefold, powers_test, powers_hold}
use Rattle.fields.proofs.byte_tables.powers.Goals as goal

pub returns : goal.returns
unfolding powers_test threefold times product remainder
returns c = powers_hold _ refl
