-- The product of bytes is linear in each factor, so that its laws hold since they hold at the powers of two, where they are
-- computed. These are proofs: they stand here since the ghost members of the bytes use them, and a reader need not believe
-- them. Assumes nothing.
use Rattle.std.specs.Prelude.{◌≡◌, ℕ, zero, suc, ◌+◌, ◌*◌, ◌^◌, ◌<◌, Bool, true, ◌==◌, bit_xor, refl}
use Rattle.std.proofs.Common.{ap, ap₂, ◌∙◌, arith}
use Rattle.std.proofs.lemmas.Bool.{eqb-true}
use Rattle.fields.specs.Byte.{bit, modulus, product, remainder, times, squares, inverse}
use Rattle.fields.specs.Linear.{Linear, Bilinear, then, below, below_at, agree₁, agree₂, agree₃, small₂, medial, bit_lt, bit_times, digit_right, shift_xor}

product_left : (k b : ℕ) → Linear (λ a. product k a b)
unfolding product
product_left zero b x y = refl
product_left (suc k) b x y =
    ap₂ bit_xor (product_left k b x y) (ap (λ m. bit b k * m) (shift_xor k x y) ∙ digit_right (bit b k) (bit_lt b k) (x * 2 ^ k) (y * 2 ^ k))
    ∙ medial (product k x b) (product k y b) (bit b k * (x * 2 ^ k)) (bit b k * (y * 2 ^ k))

pub product_right : (k a : ℕ) → Linear (product k a)
unfolding product
product_right zero a x y = refl
product_right (suc k) a x y =
    ap₂ bit_xor (product_right k a x y) (bit_times (a * 2 ^ k) k x y)
    ∙ medial (product k a x) (product k a y) (bit x k * (a * 2 ^ k)) (bit y k * (a * 2 ^ k))

remainder_linear : (k : ℕ) → Linear (remainder k)
unfolding remainder
remainder_linear zero x y = refl
remainder_linear (suc k) x y =
    let m = modulus * 2 ^ k in
    ap (remainder k) (ap (bit_xor (bit_xor x y)) (bit_times m (8 + k) x y) ∙ medial x y (bit x (8 + k) * m) (bit y (8 + k) * m))
    ∙ remainder_linear k (bit_xor x (bit x (8 + k) * m)) (bit_xor y (bit y (8 + k) * m))

pub times_left : (b : ℕ) → Linear (λ a. times a b)
unfolding times
times_left b x y = ap (remainder 7) (product_left 8 b x y) ∙ remainder_linear 7 (product 8 x b) (product 8 y b)

pub times_right : (a : ℕ) → Linear (times a)
unfolding times
times_right a x y = ap (remainder 7) (product_right 8 a x y) ∙ remainder_linear 7 (product 8 a x) (product 8 a y)

times_linear : Bilinear times
times_linear = (times_left, times_right)

-- ## The laws, each by one test: at 8 powers of two, at 64 pairs of them, or at 512 triples

pub one_times : (a : ℕ) → a < 256 → times 1 a ≡ a
unfolding times product remainder
one_times = agree₁ 8 (times 1) (λ a. a) (times_right 1) (λ x y. refl) refl

pub times_lt : (a b : ℕ) → a < 256 → b < 256 → times a b < 256
unfolding times product remainder
times_lt = small₂ 8 8 times times_linear refl

pub times_comm : (a b : ℕ) → a < 256 → b < 256 → times a b ≡ times b a
unfolding times product remainder
times_comm = agree₂ 8 times (λ a b. times b a) times_linear (times_right, times_left) refl

pub times_assoc : (a b c : ℕ) → a < 256 → b < 256 → c < 256 → times (times a b) c ≡ times a (times b c)
unfolding times product remainder
times_assoc =
    agree₃ 8 (λ a b c. times (times a b) c) (λ a b c. times a (times b c)) (
      λ b c. then (λ p. times p c) (λ a. times a b) (times_left c) (times_left b),
      λ a. (λ c. then (λ p. times p c) (times a) (times_left c) (times_right a), λ b. times_right (times a b)),
    ) (
      λ b c. times_left (times b c),
      λ a. (λ c. then (times a) (λ b. times b c) (times_right a) (times_left c), λ b. then (times a) (times b) (times_right a) (times_right b)),
    )
    refl

-- ## Inverses, by one test at each byte but zero

inverts : ℕ → Bool
inverts k = times (suc k) (inverse (suc k)) == 1

inverts_all : below 255 inverts ≡ true
unfolding inverts inverse squares times product remainder
inverts_all = refl

pub times_inverse : (a : ℕ) → 0 < a → a < 256 → times a (inverse a) ≡ 1
unfolding inverts
times_inverse zero pos h = absurd (omega arith)
times_inverse (suc k) pos h = eqb-true (times (suc k) (inverse (suc k))) 1 (below_at 255 inverts inverts_all k (omega arith))

squares_lt : (n s : ℕ) → s < 256 → squares n s < 256
unfolding squares
squares_lt zero s h = omega arith
squares_lt (suc n) s h = times_lt s (squares n (times s s)) h (squares_lt n (times s s) (times_lt s s h h))

pub inverse_lt : (a : ℕ) → a < 256 → inverse a < 256
unfolding inverse
inverse_lt a h = squares_lt 7 (times a a) (times_lt a a h h)
