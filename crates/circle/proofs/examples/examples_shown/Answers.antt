use Rattle.std.proofs.Common.{refl}
use lib.Count.{ones}
use Rattle.circle.specs.Table.{grid}
use Rattle.circle.proofs.examples.examples_shown.Goals as goal

pub returns : goal.returns
unfolding grid ones
returns c = record {
  dealt_41 = refl;
  dealt_13 = refl;
  dealt_257 = refl;
  bytes_257 = refl;
  constants_41 = refl;
  opened_41 = (refl, refl);
}
