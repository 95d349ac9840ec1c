-- The fields that a script can name. Assumes nothing.
use Rattle.std.specs.Prelude.{ℕ}
use Rattle.fields.specs.Byte.{byte_ops}
use Rattle.fields.specs.ByteField.{byte_points, byte_finite}
use Rattle.fields.specs.ByteLaws.{byte_equality}
use Rattle.fields.specs.Field.{Ops, Equality, Points, Finite}
use Rattle.fields.specs.Modulus.{Chosen, chosen_13, chosen_41, chosen_257, prime_ops, prime_points, prime_finite}
use Rattle.fields.specs.ResidueLaws.{equality}
use Rattle.fields.specs.declared.residue.Residue.{Residue}
use Rattle.fields.specs.declared.byte.Byte.{Byte as ByteElement}
use Rattle.script.specs.declared.steps.FieldName.{FieldName}
use Rattle.script.specs.declared.steps.FieldName.TheVariants.{Z13, Z41, Z257, Byte}

-- a field, by its elements and what they mean
pub record NamedField : Type 1 where
  pub K : Type 0
  pub ops : Ops K
  pub finite : Finite K
  pub points : Points ops
  pub equal : Equality K

abbrev pub prime : (p : ℕ) → Chosen p → NamedField
prime p c = record {
  K = Residue p;
  ops = prime_ops p c;
  finite = prime_finite p c;
  points = prime_points p c;
  equal = equality p;
}

abbrev pub byte : NamedField
byte = record { K = ByteElement; ops = byte_ops; finite = byte_finite; points = byte_points; equal = byte_equality }

abbrev pub field : FieldName → NamedField
field Z13 = prime 13 chosen_13
field Z41 = prime 41 chosen_41
field Z257 = prime 257 chosen_257
field Byte = byte
