-- The numbers below p, with the sum and the product modulo p. Assumes nothing.
use Rattle.std.specs.Prelude.{ℕ, ◌+◌, ◌-◌, ◌*◌, ◌/◌, ◌%◌, ◌^◌, ◌<◌, List, [], ◌∷◌}
use Rattle.std.proofs.Common.{mod-lt, arith}
use Rattle.fields.specs.Field.{Ops}
use Rattle.fields.specs.declared.residue.Residue.{Residue}

-- the residue of a number
abbrev pub residue : (p : ℕ) → 0 < p → ℕ → Residue p
residue p pos n = record { value = n % p; ok = mod-lt n pos }

pub positive : {p : ℕ} → Residue p → 0 < p
positive x = omega (arith, x.ok)

abbrev pub plus : (p : ℕ) → Residue p → Residue p → Residue p
plus p x y = residue p (positive x) (x.value + y.value)

abbrev pub minus : (p : ℕ) → Residue p → Residue p
minus p x = residue p (positive x) (p - x.value)

abbrev pub times : (p : ℕ) → Residue p → Residue p → Residue p
times p x y = residue p (positive x) (x.value * y.value)

abbrev pub power : (p : ℕ) → Residue p → ℕ → Residue p
power p x n = residue p (positive x) (x.value ^ n)

pub some : {p : ℕ} → 1 < p → 0 < p
some big = omega (arith, big)

-- The operations. The inverse is the power p - 2, as Fermat's little theorem has it for a prime p.
abbrev pub operations : (p : ℕ) → 1 < p → Ops (Residue p)
operations p big = record {
  zero = record { value = 0; ok = some big };
  one = record { value = 1; ok = big };
  add = plus p;
  mul = times p;
  neg = minus p;
  inv = λ x. power p x (p - 2);
}

-- A number in one byte, or in two with the high byte first.
pub data Width : Type 0 where
  single : Width
  double : Width

abbrev pub count : Width → ℕ
count single = 1
count double = 2

-- how many numbers there are of a width
abbrev pub span : Width → ℕ
span single = 256
span double = 65536

abbrev pub form : Width → ℕ → List ℕ
form single v = v ∷ []
form double v = (v / 256) ∷ (v % 256) ∷ []
