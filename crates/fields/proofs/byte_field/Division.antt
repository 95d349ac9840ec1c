-- The remainder is that of a division: what was taken away is a multiple of the modulus. Assumes nothing.
use Rattle.std.proofs.Common.{◌≡◌, ℕ, zero, suc, ◌+◌, ◌-◌, ◌*◌, ◌/◌, ◌%◌, ◌^◌, ◌<◌, ◌≤◌, sym, refl, ap, ◌∙◌, subst, ap₂, arith, pow-add}
use native.Mathlib.Nat as nat
use lib.Arith.{digits_lt}
use lib.Bits.{bit_xor, xor_assoc, xor_comm, xor_self, xor_zero_r, xor_shifted, shifted_even}
use lib.Pow.{shl-shr}
use Rattle.fields.specs.Linear.{bit_lt, bit_of_xor}
use Rattle.fields.specs.Byte.{bit, plus, modulus, product, remainder}
use Rattle.fields.specs.ByteProducts.{product_right}

-- d x ^ k has no term below x ^ k
bit_below : (d i j : ℕ) → bit (d * 2 ^ (suc i + j)) j ≡ 0
bit_below d i j =
    ap (λ n. n / 2 ^ j % 2) (ap (λ n. d * n) (pow-add 2 (suc i) j) ∙ sym (nat.mul_assoc d (2 ^ suc i) (2 ^ j)))
    ∙ ap (λ n. n % 2) (shl-shr (d * 2 ^ suc i) j) ∙ shifted_even d i

product_below : (d k j : ℕ) → j ≤ k → product j modulus (d * 2 ^ k) ≡ 0
unfolding product
product_below d k zero h = refl
product_below d k (suc j) h =
    let apart : suc (k - suc j) + j ≡ k = omega arith in
    let none : bit (d * 2 ^ k) j ≡ 0 = subst (λ n. bit (d * 2 ^ n) j ≡ 0) apart (bit_below d (k - suc j) j) in
    ap₂ plus (product_below d k j (omega arith)) (ap (λ n. n * (modulus * 2 ^ j)) none ∙ nat.zero-mul (modulus * 2 ^ j))

-- the bit k of d x ^ k and a polynomial of lower degree
bit_here : (d k q : ℕ) → d < 2 → q < 2 ^ k → bit (plus (d * 2 ^ k) q) k ≡ d
bit_here d k q h l =
    bit_of_xor k (d * 2 ^ k) q
    ∙ ap₂ bit_xor (ap (λ n. n % 2) (shl-shr d k) ∙ nat.mod-eq_of_lt h) (ap (λ n. n % 2) (nat.div-eq_of_lt l))
    ∙ xor_zero_r d

short_here : (d k q : ℕ) → d < 2 → q < 2 ^ k → plus (d * 2 ^ k) q < 2 ^ suc k
short_here d k q h l =
    subst (λ n. n < 2 ^ suc k) (sym (xor_shifted d k q l))
    (subst (λ n. d * 2 ^ k + q < n) (nat.mul_comm 2 (2 ^ k) ∙ sym (nat.pow-suc 2 k)) (digits_lt h l))

regroup : (p x w r : ℕ) → plus p x ≡ plus w r → p ≡ plus (plus w x) r
regroup p x w r e =
    sym (xor_assoc p x x ∙ ap (bit_xor p) (xor_self x) ∙ xor_zero_r p)
    ∙ ap (λ n. bit_xor n x) e ∙ xor_assoc w r x ∙ ap (bit_xor w) (xor_comm r x) ∙ sym (xor_assoc w x r)

pub divided : (k p : ℕ) → (q : ℕ) × (q < 2 ^ k) × (p ≡ plus (product k modulus q) (remainder k p))
unfolding product remainder
divided zero p = (0, omega arith, refl)
divided (suc k) p =
    let d = bit p (8 + k) in
    let m = modulus * 2 ^ k in
    let rest = remainder k (plus p (d * m)) in
    let lower = divided k (plus p (d * m)) in
    let q = plus (d * 2 ^ k) lower.0 in
    let one : d < 2 = bit_lt p (8 + k) in
    let same : product k modulus q ≡ product k modulus lower.0 =
    product_right k modulus (d * 2 ^ k) lower.0 ∙ ap (λ n. bit_xor n (product k modulus lower.0)) (product_below d k k (omega arith)) in (
      q,
      short_here d k lower.0 one lower.1,
      regroup p (d * m) (product k modulus lower.0) rest lower.2
          ∙ ap (λ n. plus n rest) (ap₂ plus (sym same) (ap (λ n. n * m) (sym (bit_here d k lower.0 one lower.1)))),
    )
