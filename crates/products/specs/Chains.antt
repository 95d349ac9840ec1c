-- What the two kinds of products come to. Assumes nothing.
use Rattle.std.specs.Prelude.{ℕ, zero, suc, ◌/◌}
use Rattle.fields.specs.Byte.{byte_of, byte_ops}
use Rattle.fields.specs.declared.byte.Byte.{Byte}

-- the last two elements of a chain, each the product of the two before it, and the lowest byte of a counter
unfoldable pub chain : ℕ → Byte × Byte
chain zero = (byte_ops.one, byte_ops.one)
chain (suc n) = ((chain n).1, byte_ops.add (byte_ops.mul (chain n).0 (chain n).1) (byte_of n))

-- the sum of the products of the lowest two bytes of the numbers below n
unfoldable pub sum_of : ℕ → Byte
sum_of zero = byte_ops.zero
sum_of (suc n) = byte_ops.add (sum_of n) (byte_ops.mul (byte_of n) (byte_of (n / 256)))
