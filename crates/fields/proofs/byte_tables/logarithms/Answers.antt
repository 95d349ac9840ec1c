use Rattle.std.proofs.Common.{refl}
use Rattle.fields.specs.Byte.{product, remainder, times}
use Rattle.fields.proofs.byte_tables.Tables.{run, placed, logarithms_test, logarithms_hold}
use Rattle.fields.proofs.byte_tables.logarithms.Goals as goal

pub returns : goal.returns
unfolding logarithms_test placed run times product remainder
returns c = logarithms_hold _ refl
