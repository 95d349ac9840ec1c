-- Maps that take sums to sums, where a sum is the exclusive or: two that agree at the powers of two agree. These are proofs:
-- they stand here since the ghost members of the bytes use them, and a reader need not believe them. Assumes nothing.
use Rattle.std.specs.Prelude.{◌≡◌, ℕ, zero, suc, ◌*◌, ◌/◌, ◌%◌, ◌^◌, ◌<◌, Bool, true, ◌&&◌, nat_eq, nat_lt}
use Rattle.std.proofs.Common.{sym, ap, ap₂, ◌∙◌, subst, ⊎_elim, arith, pow_pos}
use Rattle.std.proofs.Math.Nat as nat
use Rattle.std.proofs.Math.Arith.{lt-one}
use Rattle.std.specs.Int.Bits.{bit_xor, xor_self, xor_zero_r, xor_assoc, xor_shifted}
use Rattle.std.proofs.lemmas.Nat.{xor_comm, xor_block, xor_shr, xor_mod, xor_lt}
use Rattle.std.proofs.Math.Pow.{split}
use Rattle.std.proofs.lemmas.Bool.{and_parts, eqb-true, ltb-true}
use Rattle.fields.specs.Byte.{bit}

-- ## Tests over many numbers

-- the test f passes at each number below n
abbrev pub below : ℕ → (ℕ → Bool) → Bool
below zero f = true
below (suc n) f = f n && below n f

pub below_at : (n : ℕ) (f : ℕ → Bool) → below n f ≡ true → (k : ℕ) → k < n → f k ≡ true
below_at zero f t k h = absurd (nat.not-suc-le-zero h)
below_at (suc n) f t k h =
    let parts = and_parts (f n) (below n f) t in
    ⊎_elim (λ is. subst (λ m. f m ≡ true) (sym is) parts.0) (λ less. below_at n f parts.1 k less)
    (nat.eq-or-lt_of_le (nat.le_of_suc-le-suc h))

-- the test f passes at each power of two below 2 ^ k
abbrev pub powers : ℕ → (ℕ → Bool) → Bool
powers k f = below k (λ i. f (2 ^ i))

powers_at : (k : ℕ) (f : ℕ → Bool) → powers k f ≡ true → (i : ℕ) → i < k → f (2 ^ i) ≡ true
powers_at k f = below_at k (λ i. f (2 ^ i))

-- ## Linear maps

abbrev pub Linear : (ℕ → ℕ) → Type 0
Linear f = (x y : ℕ) → f (bit_xor x y) ≡ bit_xor (f x) (f y)

abbrev pub Bilinear : (ℕ → ℕ → ℕ) → Type 0
Bilinear f = ((b : ℕ) → Linear (λ a. f a b)) × ((a : ℕ) → Linear (f a))

abbrev pub Trilinear : (ℕ → ℕ → ℕ → ℕ) → Type 0
Trilinear f = ((b c : ℕ) → Linear (λ a. f a b c)) × ((a : ℕ) → Bilinear (f a))

pub then : (f g : ℕ → ℕ) → Linear f → Linear g → Linear (λ x. f (g x))
then f g l m x y = ap f (m x y) ∙ l (g x) (g y)

pub at_zero : (f : ℕ → ℕ) → Linear f → f 0 ≡ 0
at_zero f l = l 0 0 ∙ xor_self (f 0)

digit_of : (P : ℕ → Type 0) (m d : ℕ) → d < 2 → P 0 → P m → P (d * m)
digit_of P m zero h none one = subst P (sym (nat.zero-mul m)) none
digit_of P m (suc zero) h none one = subst P (sym (nat.one-mul m)) one
digit_of P m (suc (suc d)) h none one = absurd (omega arith)

top_digit : (a k : ℕ) → a < 2 ^ suc k → a / 2 ^ k < 2
top_digit a k h = (nat.div-lt_iff_lt-mul (pow_pos k)).1 (subst (λ n. a < n) (nat.pow-suc 2 k ∙ nat.mul_comm (2 ^ k) 2) h)

-- what holds of 0, of sums and of the powers of two below 2 ^ k holds of every number below 2 ^ k
by_bits : (P : ℕ → Type 0) → P 0 → ((x y : ℕ) → P x → P y → P (bit_xor x y))
    → (k : ℕ) → ((i : ℕ) → i < k → P (2 ^ i)) → (a : ℕ) → a < 2 ^ k → P a
by_bits P none sum zero at a h = subst P (sym (lt-one h)) none
by_bits P none sum (suc k) at a h =
    let high : P (a / 2 ^ k * 2 ^ k) = digit_of P (2 ^ k) (a / 2 ^ k) (top_digit a k h) none (at k (omega arith)) in
    let low : P (a % 2 ^ k) = by_bits P none sum k (λ i l. at i (omega arith)) (a % 2 ^ k) (nat.mod-lt a (pow_pos k)) in
    subst P (xor_shifted (a / 2 ^ k) k (a % 2 ^ k) (nat.mod-lt a (pow_pos k)) ∙ split a k) (sum (a / 2 ^ k * 2 ^ k) (a % 2 ^ k) high low)

-- maps that agree at the powers of two agree: of one number, of two, and of three
module _ (k : ℕ) where
  agree : (f g : ℕ → ℕ) → Linear f → Linear g → ((i : ℕ) → i < k → f (2 ^ i) ≡ g (2 ^ i)) → (a : ℕ) → a < 2 ^ k → f a ≡ g a
  agree f g l m at =
      by_bits (λ x. f x ≡ g x) (at_zero f l ∙ sym (at_zero g m)) (λ x y p q. l x y ∙ ap₂ bit_xor p q ∙ sym (m x y)) k at

  pub agree₁ : (f g : ℕ → ℕ) → Linear f → Linear g → powers k (λ x. nat_eq (f x) (g x)) ≡ true → (a : ℕ) → a < 2 ^ k → f a ≡ g a
  agree₁ f g l m t = agree f g l m (λ i h. eqb-true (f (2 ^ i)) (g (2 ^ i)) (powers_at k (λ x. nat_eq (f x) (g x)) t i h))

  pub agree₂ : (f g : ℕ → ℕ → ℕ) → Bilinear f → Bilinear g → powers k (λ x. powers k (λ y. nat_eq (f x y) (g x y))) ≡ true
      → (a b : ℕ) → a < 2 ^ k → b < 2 ^ k → f a b ≡ g a b
  agree₂ f g l m t a b h h' =
      agree (λ x. f x b) (λ x. g x b) (l.0 b) (m.0 b)
      (λ i u. agree₁ (f (2 ^ i)) (g (2 ^ i)) (l.1 (2 ^ i)) (m.1 (2 ^ i)) (powers_at k (λ x. powers k (λ y. nat_eq (f x y) (g x y))) t i u) b h') a h

  pub agree₃ : (f g : ℕ → ℕ → ℕ → ℕ) → Trilinear f → Trilinear g → powers k (λ x. powers k (λ y. powers k (λ z. nat_eq (f x y z) (g x y z)))) ≡ true
      → (a b c : ℕ) → a < 2 ^ k → b < 2 ^ k → c < 2 ^ k → f a b c ≡ g a b c
  agree₃ f g l m t a b c h h' h'' =
      agree (λ x. f x b c) (λ x. g x b c) (l.0 b c) (m.0 b c)
      (λ i u. agree₂ (f (2 ^ i)) (g (2 ^ i)) (l.1 (2 ^ i)) (m.1 (2 ^ i)) (powers_at k (λ x. powers k (λ y. powers k (λ z. nat_eq (f x y z) (g x y z)))) t i u) b c h' h'') a h

  -- a map whose values have at most w bits at the powers of two has such values everywhere
  small₁ : (w : ℕ) (f : ℕ → ℕ) → Linear f → ((i : ℕ) → i < k → f (2 ^ i) < 2 ^ w) → (a : ℕ) → a < 2 ^ k → f a < 2 ^ w
  small₁ w f l at = by_bits (λ x. f x < 2 ^ w) (rw (at_zero f l) (pow_pos w)) (λ x y p q. rw (l x y) (xor_lt w (f x) (f y) p q)) k at

  pub small₂ : (w : ℕ) (f : ℕ → ℕ → ℕ) → Bilinear f → powers k (λ x. powers k (λ y. nat_lt (f x y) (2 ^ w))) ≡ true
      → (a b : ℕ) → a < 2 ^ k → b < 2 ^ k → f a b < 2 ^ w
  small₂ w f l t a b h h' =
      small₁ w (λ x. f x b) (l.0 b)
      (λ i u. small₁ w (f (2 ^ i)) (l.1 (2 ^ i))
      (λ j v. ltb-true (f (2 ^ i) (2 ^ j)) (2 ^ w) (powers_at k (λ y. nat_lt (f (2 ^ i) y) (2 ^ w)) (powers_at k (λ x. powers k (λ y. nat_lt (f x y) (2 ^ w))) t i u) j v)) b h') a h

-- ## Digits

pub medial : (a b c d : ℕ) → bit_xor (bit_xor a b) (bit_xor c d) ≡ bit_xor (bit_xor a c) (bit_xor b d)
medial a b c d =
    xor_assoc a b (bit_xor c d)
    ∙ ap (bit_xor a) (sym (xor_assoc b c d) ∙ ap (λ x. bit_xor x d) (xor_comm b c) ∙ xor_assoc c b d)
    ∙ sym (xor_assoc a c (bit_xor b d))

pub bit_of_xor : (k : ℕ) → Linear (λ p. bit p k)
bit_of_xor k x y = ap (λ p. p % 2) (xor_shr x y k) ∙ xor_mod (x / 2 ^ k) (y / 2 ^ k) 1

pub bit_lt : (p k : ℕ) → bit p k < 2
bit_lt p k = nat.mod-lt (p / 2 ^ k) (omega arith)

pub shift_xor : (k : ℕ) → Linear (λ x. x * 2 ^ k)
shift_xor k x y = sym (simp nat.add-zero at (xor_block k x y 0 0 (pow_pos k) (pow_pos k)))

-- a digit times a number
digit_left : (m d e : ℕ) → d < 2 → e < 2 → bit_xor d e * m ≡ bit_xor (d * m) (e * m)
digit_left m zero e h k = sym (ap (λ x. bit_xor x (e * m)) (nat.zero-mul m))
digit_left m (suc zero) zero h k = sym (ap (bit_xor (1 * m)) (nat.zero-mul m) ∙ xor_zero_r (1 * m))
digit_left m (suc zero) (suc zero) h k = nat.zero-mul m ∙ sym (xor_self (1 * m))
digit_left m (suc zero) (suc (suc e)) h k = absurd (omega arith)
digit_left m (suc (suc d)) e h k = absurd (omega arith)

pub digit_right : (d : ℕ) → d < 2 → Linear (λ x. d * x)
digit_right zero h x y = nat.zero-mul (bit_xor x y) ∙ sym (ap₂ bit_xor (nat.zero-mul x) (nat.zero-mul y))
digit_right (suc zero) h x y = nat.one-mul (bit_xor x y) ∙ sym (ap₂ bit_xor (nat.one-mul x) (nat.one-mul y))
digit_right (suc (suc d)) h x y = absurd (omega arith)

pub bit_times : (m k : ℕ) → Linear (λ p. bit p k * m)
bit_times m k x y = ap (λ d. d * m) (bit_of_xor k x y) ∙ digit_left m (bit x k) (bit y k) (bit_lt x k) (bit_lt y k)
