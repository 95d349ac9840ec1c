use Rattle.std.proofs.Common.{sym, subst}
use Rattle.fields.specs.ByteTables.{NoLogarithm}
use Rattle.fields.proofs.byte_tables.Tables.{none_of_zero}
use Rattle.fields.proofs.byte_tables.logarithm.Goals as goal

pub returns-then-value-eq0 : goal.returns-then-value-eq0
returns-then-value-eq0 c = subst NoLogarithm (sym c.if-value-eq0.true) none_of_zero
