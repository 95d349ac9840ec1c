-- What the two tables of the bytes hold: each byte but zero is a power of 3. Nothing here is needed to know what the field
-- of the bytes promises. Assumes nothing.
use Rattle.std.specs.Prelude.{◌≡◌, ℕ, zero, suc, ◌+◌, ◌-◌, ◌%◌, ◌<◌, ◌≤◌, List, slice_index}
use Rattle.fields.specs.Byte.{times, inverse, byte_ops}
use Rattle.fields.specs.declared.byte.Byte.{Byte}

-- 3 to the power n
unfoldable pub power3 : ℕ → ℕ
power3 zero = 1
power3 (suc n) = times 3 (power3 n)

-- The powers of 3 come round after 255 of them.
pub record Powers (table : List ℕ) : Type 0 where
  pub entry : (n : ℕ) → slice_index table (n % 255) ≡ power3 n

-- Zero has no logarithm, and annuls a product.
pub record NoLogarithm (v : ℕ) : Type 0 where
  pub zero : (x : Byte) → x.value ≡ v → x ≡ byte_ops.zero
  pub left : (w : ℕ) → times v w ≡ 0
  pub right : (w : ℕ) → times w v ≡ 0

-- The logarithm e of v, and what it says of a product and of the inverse.
pub record Logarithm (v e : ℕ) : Type 0 where
  pub some : 0 < v
  pub small : e < 255
  pub power : power3 e ≡ v
  pub product : (w f : ℕ) → power3 f ≡ w → power3 (e + f) ≡ times v w
  pub inverts : power3 (255 - e) ≡ inverse v

-- The logarithm of v stands at v - 1.
pub record Logarithms (table : List ℕ) : Type 0 where
  pub entry : (v : ℕ) → 1 ≤ v → v < 256 → Logarithm v (slice_index table (v - 1))
