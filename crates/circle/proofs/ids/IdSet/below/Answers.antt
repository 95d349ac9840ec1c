use Rattle.std.proofs.Common.{◌≡◌, ◌-◌, ◌*◌, ◌%◌, ◌^◌, ◌≤◌, sym, ap, ◌∙◌, mod-eq_of_lt, arith, pow_mono}
use lib.Bits.{bit_and, and_mask}
use Rattle.std.proofs.lemmas.Nat.{one_shl}
use Rattle.circle.proofs.ids.IdSet.below.Goals as goal

pub returns-then-id-gt32 : goal.returns-then-id-gt32
returns-then-id-gt32 c =
    let n = c.args.id - 1 in
    let bits = c.self.inside.bits in
    let high : 2 ^ 32 ≤ 2 ^ n = pow_mono {i = 32} {j = n} (omega arith) in
    let low : bits % 2 ^ n ≡ bits = mod-eq_of_lt (omega (arith, c.self.invariant, high)) in
    rw (← c.self.view_is) (sym low)

pub returns-else-id-gt32 : goal.returns-else-id-gt32
returns-else-id-gt32 c =
    let n = c.args.id - 1 in
    let bits = c.self.inside.bits in
    let one : (1 * 2 ^ n) % 2 ^ 32 ≡ 2 ^ n = one_shl n 32 (omega arith) in
    rw (← c.self.view_is) (ap (λ m. bit_and bits (m - 1)) one ∙ and_mask bits n)
