-- The powers of 3: a product of two has the sum of their exponents, and they come round after 255. Assumes nothing.
use Rattle.std.proofs.Common.{◌≡◌, ℕ, zero, suc, ◌+◌, ◌-◌, ◌*◌, ◌/◌, ◌%◌, ◌<◌, sym, refl, ap, ◌∙◌, arith}
use native.Mathlib.Nat as nat
use Rattle.fields.specs.Byte.{product, remainder, times, inverse}
use Rattle.fields.specs.ByteProducts.{times_lt, times_comm, times_assoc, one_times, times_inverse, inverse_lt}
use Rattle.fields.specs.ByteTables.{power3}

pub power_lt : (n : ℕ) → power3 n < 256
unfolding power3
power_lt zero = omega arith
power_lt (suc n) = times_lt 3 (power3 n) (omega arith) (power_lt n)

pub power_add : (i j : ℕ) → power3 (i + j) ≡ times (power3 i) (power3 j)
unfolding power3
power_add zero j = ap power3 (nat.zero-add j) ∙ sym (one_times (power3 j) (power_lt j))
power_add (suc i) j =
    ap power3 (nat.suc-add i j) ∙ ap (times 3) (power_add i j)
    ∙ sym (times_assoc 3 (power3 i) (power3 j) (omega arith) (power_lt i) (power_lt j))

power_255 : power3 255 ≡ 1
unfolding power3 times product remainder
power_255 = refl

power_round : (n : ℕ) → power3 (255 + n) ≡ power3 n
power_round n = power_add 255 n ∙ ap (λ p. times p (power3 n)) power_255 ∙ one_times (power3 n) (power_lt n)

power_rounds : (k n : ℕ) → power3 (255 * k + n) ≡ power3 n
power_rounds zero n = ap power3 (omega arith)
power_rounds (suc k) n = ap power3 (omega (arith, nat.mul-suc 255 k)) ∙ power_round (255 * k + n) ∙ power_rounds k n

pub power_mod : (n : ℕ) → power3 (n % 255) ≡ power3 n
power_mod n = sym (power_rounds (n / 255) (n % 255)) ∙ ap power3 (omega arith)

-- v w = 1 and v w' = 1: then w = w w' v = w'
inverse_unique : (v w : ℕ) → 0 < v → v < 256 → w < 256 → times v w ≡ 1 → w ≡ inverse v
inverse_unique v w pos h k e =
    let u = inverse v in
    let l = inverse_lt v h in
    sym (one_times w k) ∙ ap (λ n. times n w) (sym (times_inverse v pos h) ∙ times_comm v u h l)
    ∙ times_assoc u v w l h k ∙ ap (times u) e ∙ times_comm u 1 l (omega arith) ∙ one_times u l

pub power_inverse : (v e : ℕ) → 0 < v → power3 e ≡ v → e < 255 → power3 (255 - e) ≡ inverse v
power_inverse v e pos is h =
    let whole : e + (255 - e) ≡ 255 = omega arith in
    let one = ap (λ n. times n (power3 (255 - e))) (sym is) ∙ sym (power_add e (255 - e)) ∙ ap power3 whole ∙ power_255 in
    let small : v < 256 = omega (arith, power_lt e) in
    inverse_unique v (power3 (255 - e)) pos small (power_lt (255 - e)) one
