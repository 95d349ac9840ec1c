-- What the parts of the code for Lagrange's constants come to. Assumes nothing.
use Rattle.std.specs.Prelude.{List, [], ◌∷◌}
use Rattle.fields.specs.Field.{Ops, sub}

module _ {K : Type 0} (F : Ops K) where
  -- the product of z - k over the points k
  abbrev pub gaps : List K → K → K
  gaps [] z = F.one
  gaps (k ∷ ks) z = F.mul (sub F z k) (gaps ks z)
