-- Powers modulo p, by squares. Assumes nothing.
use Rattle.std.proofs.Common.{◌≡◌, ℕ, zero, suc, ◌+◌, ◌*◌, ◌/◌, ◌%◌, ◌^◌, ◌<◌, sym, ap, ◌∙◌, ap₂, arith, pow-add}
use native.Mathlib.Nat as nat
use Rattle.fields.specs.ResidueLaws.{mod_mul_mod, mul_mod_mod}

pub pow-mod : (p a n : ℕ) → ((a % p) ^ n) % p ≡ (a ^ n) % p
pow-mod p a zero = ap (λ k. k % p) (nat.pow-zero (a % p) ∙ sym (nat.pow-zero a))
pow-mod p a (suc n) =
    ap (λ k. k % p) (nat.pow-suc (a % p) n)
    ∙ mul_mod_mod p ((a % p) ^ n) a
    ∙ sym (mod_mul_mod p ((a % p) ^ n) a)
    ∙ ap (λ k. (k * a) % p) (pow-mod p a n)
    ∙ mod_mul_mod p (a ^ n) a
    ∙ ap (λ k. k % p) (sym (nat.pow-suc a n))

square_pow : (s n : ℕ) → (s * s) ^ n ≡ s ^ n * s ^ n
square_pow s zero = nat.pow-zero (s * s) ∙ sym (ap₂ (λ a b. a * b) (nat.pow-zero s) (nat.pow-zero s))
square_pow s (suc n) =
    nat.pow-suc (s * s) n
    ∙ ap (λ k. k * (s * s)) (square_pow s n)
    ∙ nat.mul-mul-mul_comm (s ^ n) (s ^ n) s s
    ∙ sym (ap₂ (λ a b. a * b) (nat.pow-suc s n) (nat.pow-suc s n))

-- r s ^ (2 n) by the square of s
pub halved : (p r s n : ℕ) → (r * (s * s % p) ^ n) % p ≡ (r * s ^ (n + n)) % p
halved p r s n =
    sym (mul_mod_mod p r ((s * s % p) ^ n))
    ∙ ap (λ k. (r * k) % p) (pow-mod p (s * s) n)
    ∙ mul_mod_mod p r ((s * s) ^ n)
    ∙ ap (λ k. (r * k) % p) (square_pow s n ∙ sym (pow-add s n n))

-- the turn at an even exponent, and at an odd one
pub turn_even : (p r s l : ℕ) → l % 2 ≡ 0 → (r * (s * s % p) ^ (l / 2)) % p ≡ (r * s ^ l) % p
turn_even p r s l even =
    let e : l / 2 + l / 2 ≡ l = omega arith in
    halved p r s (l / 2) ∙ ap (λ n. (r * s ^ n) % p) e

pub turn_odd : (p r s l : ℕ) → l % 2 ≡ 1 → ((r * s % p) * (s * s % p) ^ (l / 2)) % p ≡ (r * s ^ l) % p
turn_odd p r s l odd =
    let n = l / 2 in
    let e : suc (n + n) ≡ l = omega arith in
    mod_mul_mod p (r * s) ((s * s % p) ^ n)
    ∙ halved p (r * s) s n
    ∙ ap (λ k. k % p) (nat.mul_assoc r s (s ^ (n + n)) ∙ ap (λ k. r * k) (sym (nat.pow-succ' s (n + n))) ∙ ap (λ k. r * s ^ k) e)

pub start : (p s n : ℕ) → (1 % p * s ^ n) % p ≡ (s ^ n) % p
start p s n = mod_mul_mod p 1 (s ^ n) ∙ ap (λ k. k % p) (nat.one-mul (s ^ n))

pub done : (p r s l : ℕ) → l ≡ 0 → r < p → (r * s ^ l) % p ≡ r
done p r s l e less =
    ap (λ k. (r * s ^ k) % p) e ∙ ap (λ k. (r * k) % p) (nat.pow-zero s) ∙ ap (λ k. k % p) (nat.mul-one r) ∙ nat.mod-eq_of_lt less
