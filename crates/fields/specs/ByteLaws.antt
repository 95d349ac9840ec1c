-- The bytes are a field. These are proofs: they stand here since the ghost members of the bytes hold them, and a reader need
-- not believe them. Assumes nothing.
use Rattle.std.specs.Prelude.{◌≡◌, ℕ, suc, ◌%◌, ◌<◌, ◌==◌}
use Rattle.std.proofs.Common.{sym, ap, ap₂, ◌∙◌, arith, eq-eqb}
use mathlib.Core.HLevel.{is_prop→PathP}
use Rattle.std.proofs.Math.Nat as nat
use Rattle.std.proofs.Math.Bridge.{le_prop}
use Rattle.std.proofs.lemmas.Nat.{xor_lt, xor_comm}
use Rattle.std.specs.Int.Bits.{xor_assoc, xor_self, xor_zero_r}
use Rattle.std.proofs.lemmas.Bool.{eqb-true}
use Rattle.fields.specs.Field.{RingLaws, FieldLaws, Equality}
use Rattle.fields.specs.Byte.{plus, times, inverse, byte_of, byte_ops}
use Rattle.fields.specs.ByteProducts.{times_right, times_lt, times_comm, times_assoc, one_times, times_inverse, inverse_lt}
use Rattle.fields.specs.declared.byte.Byte.{Byte}

-- the invariant has one proof, so bytes are equal where their values are
pub byte_≡ : {x y : Byte} → x.value ≡ y.value → x ≡ y
byte_≡ {x} {y} e =
    λ i. record { value = e i; ok = is_prop→PathP (λ j. e j < 256) (λ j. le_prop {n = suc (e j)} {m = 256}) x.ok y.ok i }

pub byte_is : (x : Byte) → byte_of x.value ≡ x
byte_is x = byte_≡ (nat.mod-eq_of_lt x.ok)

-- sums, products and inverses lose nothing in the lowest eight bits

plus_value : (x y : Byte) → plus x.value y.value % 256 ≡ plus x.value y.value
plus_value x y = nat.mod-eq_of_lt (xor_lt 8 x.value y.value x.ok y.ok)

times_value : (x y : Byte) → times x.value y.value % 256 ≡ times x.value y.value
times_value x y = nat.mod-eq_of_lt (times_lt x.value y.value x.ok y.ok)

inverse_value : (x : Byte) → inverse x.value % 256 ≡ inverse x.value
inverse_value x = nat.mod-eq_of_lt (inverse_lt x.value x.ok)

ring_laws : RingLaws byte_ops
ring_laws = record {
  add_assoc = λ x y z. ap byte_of (ap (λ n. plus n z.value) (plus_value x y) ∙ xor_assoc x.value y.value z.value ∙ sym (ap (plus x.value) (plus_value y z)));
  add_comm = λ x y. ap byte_of (xor_comm x.value y.value);
  add-zero = λ x. ap byte_of (xor_zero_r x.value) ∙ byte_is x;
  add-neg = λ x. ap byte_of (xor_self x.value);
  mul_assoc = λ x y z. ap byte_of (ap (λ n. times n z.value) (times_value x y) ∙ times_assoc x.value y.value z.value x.ok y.ok z.ok ∙ sym (ap (times x.value) (times_value y z)));
  mul_comm = λ x y. ap byte_of (times_comm x.value y.value x.ok y.ok);
  mul-one = λ x. ap byte_of (times_comm x.value 1 x.ok (omega arith) ∙ one_times x.value x.ok) ∙ byte_is x;
  distrib = λ x y z. ap byte_of (ap (times x.value) (plus_value y z) ∙ times_right x.value y.value z.value ∙ sym (ap₂ plus (times_value x y) (times_value x z)));
}

pub byte_laws : FieldLaws byte_ops
byte_laws = record {
  ring = ring_laws;
  zero≢one = λ e. let z : ◌≡◌ {A = ℕ} 0 1 = ap (λ x. x.value) e in omega arith;
  mul-inv = λ x not. ap byte_of (ap (times x.value) (inverse_value x) ∙ times_inverse x.value (nat.pos_of_ne-zero (λ e. not (byte_≡ e))) x.ok);
}

abbrev pub byte_equality : Equality Byte
byte_equality = record {
  same = λ x y. (x.value == y.value);
  tells = λ x y. (λ e. byte_≡ (eqb-true x.value y.value e), λ e. eq-eqb x.value y.value (ap (λ z. z.value) e));
}
