use Rattle.std.proofs.Common.{refl}
use lib.Count.{ones}
use Rattle.fields.specs.Byte.{product, remainder, times, inverse, squares}
use Rattle.circle.specs.Ids.{ids, members}
use Rattle.circle.specs.Table.{grid}
use Rattle.circle.proofs.examples.further_shown.Goals as goal

pub returns : goal.returns
unfolding grid ones ids members times product remainder inverse squares
returns c = record {
  product_byte = refl;
  inverse_byte = refl;
  dealt_byte = refl;
  helpers_41 = refl;
  admitted_41 = (refl, (refl, (refl, (refl, tt))), refl, refl, refl);
  changed_41 = (refl, (refl, (refl, (refl, tt))), refl, refl, refl);
  refreshed_13 = (refl, (refl, (refl, (refl, (refl, tt)))), refl, refl, refl);
}
