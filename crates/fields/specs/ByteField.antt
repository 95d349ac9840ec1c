-- What the field of the bytes has besides its operations: points, forms and numbers. Assumes nothing.
use Rattle.std.specs.Prelude.{◌≡◌, ◌%◌, [], ◌∷◌, slice_index, refl}
use Rattle.std.proofs.Common.{ap, arith}
use Rattle.fields.specs.Field.{Points, Forms, Finite}
use Rattle.fields.specs.Byte.{byte_of, byte_ops}
use Rattle.fields.specs.ByteLaws.{byte_≡}
use Rattle.fields.specs.declared.byte.Byte.{Byte}

-- the point of the id h is the byte of value h
abbrev pub byte_points : Points byte_ops
byte_points = record {
  largest = 32;
  at = byte_of;
  some = omega arith;
  few = omega arith;
  not-zero = λ i pos le e. let z : i % 256 ≡ 0 = ap (λ x. x.value) e in omega arith;
  apart = λ i j _ le _ le' e. let z : i % 256 ≡ j % 256 = ap (λ x. x.value) e in omega arith;
}

-- the form of a byte is the byte itself
abbrev pub byte_forms : Forms Byte
byte_forms = record {
  mark = 4;
  width = 1;
  bytes = λ x. x.value ∷ [];
  some = omega arith;
  few = omega arith;
  wide = λ x. refl;
  small = λ x. (x.ok, tt);
  apart = λ x y e. byte_≡ (ap (λ xs. slice_index xs 0) e);
}

-- the number of a byte is its value
abbrev pub byte_finite : Finite Byte
byte_finite = record {
  size = 256;
  number = λ x. x.value;
  element = λ n h. record { value = n; ok = h };
  few = omega arith;
  below = λ x. x.ok;
  numbered = λ n h. refl;
  apart = λ x y e. byte_≡ e;
}
