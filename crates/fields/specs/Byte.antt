-- The bytes as FIPS 197 defines them in its section 4: a byte stands for the polynomial over the field of two elements whose
-- coefficient of x ^ k is its bit k. Polynomials of any degree are numbers in the same way. Assumes nothing.
use Rattle.std.specs.Prelude.{◌≡◌, ℕ, zero, suc, ◌+◌, ◌*◌, ◌/◌, ◌%◌, ◌^◌, ◌<◌, cond, bit_xor, nat_lt}
use Rattle.std.proofs.Common.{mod-lt, arith}
use Rattle.fields.specs.Field.{Ops}
use Rattle.fields.specs.declared.byte.Byte.{Byte}

-- the coefficient of x ^ k
abbrev pub bit : ℕ → ℕ → ℕ
bit p k = p / 2 ^ k % 2

-- the sum: the coefficients are added modulo 2
abbrev pub plus : ℕ → ℕ → ℕ
plus p q = bit_xor p q

-- the product of polynomials: the sum of p x ^ k over the terms x ^ k of q, for k below n
unfoldable pub product : ℕ → ℕ → ℕ → ℕ
product zero p q = 0
product (suc k) p q = plus (product k p q) (bit q k * (p * 2 ^ k))

-- x ^ 8 + x ^ 4 + x ^ 3 + x + 1
abbrev pub modulus : ℕ
modulus = 0x11b

-- the remainder of a polynomial of degree below 8 + n: each term from x ^ 8 up, the highest first, is cancelled by a multiple of the modulus
unfoldable pub remainder : ℕ → ℕ → ℕ
remainder zero p = p
remainder (suc k) p = remainder k (plus p (bit p (8 + k) * (modulus * 2 ^ k)))

-- the product of two bytes: multiplied as polynomials, then reduced by the modulus
unfoldable pub times : ℕ → ℕ → ℕ
times a b = remainder 7 (product 8 a b)

-- the product of s, s ^ 2, s ^ 4 and so on, n factors
unfoldable pub squares : ℕ → ℕ → ℕ
squares zero s = 1
squares (suc n) s = times s (squares n (times s s))

-- the inverse, a ^ 254: the product of a ^ 2, a ^ 4 and so on up to a ^ 128
unfoldable pub inverse : ℕ → ℕ
inverse a = squares 7 (times a a)

-- the byte of a number: its lowest eight bits
abbrev pub byte_of : ℕ → Byte
byte_of n = record { value = n % 256; ok = mod-lt n (omega arith) }

-- The operations. A byte is its own opposite.
abbrev pub byte_ops : Ops Byte
byte_ops = record {
  zero = byte_of 0;
  one = byte_of 1;
  add = λ x y. byte_of (plus x.value y.value);
  mul = λ x y. byte_of (times x.value y.value);
  neg = λ x. x;
  inv = λ x. byte_of (inverse x.value);
}

-- ## What the standard says of the product

-- The product is the remainder of a division: the product of the polynomials is a multiple of the modulus and a polynomial of degree below 8.
pub record Divided (a b : ℕ) : Type 0 where
  pub quotient : ℕ
  pub short : quotient < 2 ^ 7
  pub divides : product 8 a b ≡ plus (product 7 modulus quotient) (times a b)
  pub small : times a b < 2 ^ 8

-- the product with x: the bits move up by one, and where bit 7 was set the modulus is added
abbrev pub xtime : ℕ → ℕ
xtime a = cond (nat_lt a 128) (2 * a) (plus (2 * a) modulus)

pub record ProductLaws : Type 0 where
  pub division : (a b : ℕ) → a < 256 → b < 256 → Divided a b
  pub doubling : (a : ℕ) → a < 256 → times a 2 ≡ xtime a
