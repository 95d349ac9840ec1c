-- The binary digits of a number: one set, one cleared, and what that does to the others and to their count. Assumes nothing.
use Rattle.std.proofs.Common.{◌≡◌, ℕ, zero, suc, ◌+◌, ◌-◌, ◌*◌, ◌/◌, ◌%◌, ◌^◌, ◌<◌, ◌≤◌, min, ◌⊎◌, sym, refl, ap, ◌∙◌, ap₂, inl, inr, le_of_suc-le-suc, not-suc-le-zero, pow-suc, add-one, one-add, arith}
use lib.Bits.{bit_and, and_high, and_step, and_le_l}
use lib.Count.{ones, ones_step, count_trailing_zeros, under}
use Rattle.std.proofs.lemmas.Nat.{pow_pos, shr-shr, shr_split, mod_below, mod-pow-add}

-- digit i of n, the lowest first
abbrev pub bit : ℕ → ℕ → ℕ
bit zero n = n % 2
bit (suc i) n = bit i (n / 2)

-- as code reads it
pub bit_shift : (i n : ℕ) → n / 2 ^ i % 2 ≡ bit i n
bit_shift zero n = omega arith
bit_shift (suc i) n = ap (λ m. m % 2) (ap (λ k. n / 2 ^ k) (sym (one-add i)) ∙ sym (shr-shr n 1 i)) ∙ bit_shift i (n / 2)

-- after a shift
pub bit_shr : (k i n : ℕ) → bit i (n / 2 ^ k) ≡ bit (k + i) n
bit_shr k i n = sym (bit_shift i (n / 2 ^ k)) ∙ ap (λ m. m % 2) (shr-shr n k i) ∙ bit_shift (k + i) n

pub bit_cases : (i n : ℕ) → (bit i n ≡ 0) ⊎ (bit i n ≡ 1)
bit_cases zero n = go (n % 2) (omega arith)
  where
    go : (b : ℕ) → b < 2 → (b ≡ 0) ⊎ (b ≡ 1)
    go zero h = inl refl
    go (suc zero) h = inr refl
    go (suc (suc b)) h = absurd (omega arith)
bit_cases (suc i) n = bit_cases i (n / 2)

half_lt : (w n : ℕ) → n < 2 ^ suc w → n / 2 < 2 ^ w
half_lt w n h = omega (arith, pow-suc 2 w)

-- no digit is set past the end
pub bit_past : (w i n : ℕ) → n < 2 ^ w → w ≤ i → bit i n ≡ 0
bit_past zero zero n h l = omega arith
bit_past zero (suc i) n h l = bit_past zero i (n / 2) (omega arith) (omega arith)
bit_past (suc w) zero n h l = absurd (omega arith)
bit_past (suc w) (suc i) n h l = bit_past w i (n / 2) (half_lt w n h) (le_of_suc-le-suc l)

-- the digits below the end
mod_halves : (w n : ℕ) → n % 2 ^ suc w ≡ (n / 2 % 2 ^ w) * 2 + n % 2
mod_halves w n = ap (λ k. n % 2 ^ k) (sym (add-one w)) ∙ mod-pow-add n w 1

pub bit_mod : (w i n : ℕ) → i < w → bit i (n % 2 ^ w) ≡ bit i n
bit_mod zero i n l = absurd (not-suc-le-zero l)
bit_mod (suc w) zero n l = omega (arith, mod_halves w n)
bit_mod (suc w) (suc i) n l =
    let half : n % 2 ^ suc w / 2 ≡ n / 2 % 2 ^ w = omega (arith, mod_halves w n) in
    ap (bit i) half ∙ bit_mod w i (n / 2) (le_of_suc-le-suc l)

-- nothing is left past the end
pub shr_none : (n w : ℕ) → n / 2 ^ w ≡ 0 → n < 2 ^ w
shr_none n w e =
    let low : n % 2 ^ w < 2 ^ w = mod_below n (2 ^ w) (pow_pos w) in
    let none : n / 2 ^ w * 2 ^ w ≡ 0 * 2 ^ w = ap (λ q. q * 2 ^ w) e in
    omega (arith, shr_split n w)

-- numbers with the same digits are the same
pub bits_≡ : (w a b : ℕ) → a < 2 ^ w → b < 2 ^ w → ((i : ℕ) → i < w → bit i a ≡ bit i b) → a ≡ b
bits_≡ zero a b ha hb same = omega arith
bits_≡ (suc w) a b ha hb same =
    omega (arith, same 0 (omega arith), bits_≡ w (a / 2) (b / 2) (half_lt w a ha) (half_lt w b hb) (λ i l. same (suc i) (omega arith)))

-- ## A digit set

odd_add : (i n : ℕ) → (n + 2 ^ suc i) % 2 ≡ n % 2
odd_add i n = omega (arith, pow-suc 2 i)

half_add : (i n : ℕ) → (n + 2 ^ suc i) / 2 ≡ n / 2 + 2 ^ i
half_add i n = omega (arith, pow-suc 2 i)

pub bit_add_same : (i n : ℕ) → bit i n ≡ 0 → bit i (n + 2 ^ i) ≡ 1
bit_add_same zero n e = omega arith
bit_add_same (suc i) n e = ap (bit i) (half_add i n) ∙ bit_add_same i (n / 2) e

pub bit_add_other : (i j n : ℕ) → (j ≡ i → ⊥) → bit i n ≡ 0 → bit j (n + 2 ^ i) ≡ bit j n
bit_add_other zero zero n ne e = absurd (ne refl)
bit_add_other zero (suc j) n ne e = let half : (n + 1) / 2 ≡ n / 2 = omega arith in ap (bit j) half
bit_add_other (suc i) zero n ne e = odd_add i n
bit_add_other (suc i) (suc j) n ne e = ap (bit j) (half_add i n) ∙ bit_add_other i j (n / 2) (λ q. ne (ap suc q)) e

pub ones_add : (i n : ℕ) → bit i n ≡ 0 → ones (n + 2 ^ i) ≡ ones n + 1
ones_add zero n e =
    let odd : (n + 1) % 2 ≡ 1 = omega arith in
    let half : (n + 1) / 2 ≡ n / 2 = omega arith in
    ones_step (n + 1) ∙ ap₂ (λ x y. x + ones y) odd half ∙ omega (arith, ones_step n)
ones_add (suc i) n e =
    ones_step (n + 2 ^ suc i) ∙ ap₂ (λ x y. x + ones y) (odd_add i n) (half_add i n) ∙ omega (arith, ones_step n, ones_add i (n / 2) e)

pub add_lt : (w i n : ℕ) → i < w → n < 2 ^ w → bit i n ≡ 0 → n + 2 ^ i < 2 ^ w
add_lt zero i n l h e = absurd (not-suc-le-zero l)
add_lt (suc w) zero n l h e = omega (arith, pow-suc 2 w)
add_lt (suc w) (suc i) n l h e = omega (arith, pow-suc 2 w, pow-suc 2 i, add_lt w i (n / 2) (le_of_suc-le-suc l) (half_lt w n h) e)

-- ## A digit cleared: the number is what is left, with the digit set

pub apart : (i n : ℕ) → bit i n ≡ 1 → (n ≡ n - 2 ^ i + 2 ^ i) × (bit i (n - 2 ^ i) ≡ 0)
apart zero n e = (omega arith, omega arith)
apart (suc i) n e =
    let rest = apart i (n / 2) e in
    let half : (n - 2 ^ suc i) / 2 ≡ n / 2 - 2 ^ i = omega (arith, pow-suc 2 i, rest.0) in
    (omega (arith, pow-suc 2 i, rest.0), ap (bit i) half ∙ rest.1)

-- ## Masks

-- a mask of one digit
pub and_bit : (i n : ℕ) → bit_and n (2 ^ i) ≡ bit i n * 2 ^ i
and_bit i n =
    let one : 2 ^ (1 + i) - 2 ^ i ≡ 2 ^ i = omega (arith, ap (λ k. 2 ^ k) (one-add i), pow-suc 2 i) in
    ap (bit_and n) (sym one) ∙ and_high n 1 i ∙ ap (λ b. b * 2 ^ i) (bit_shift i n)

and_odd : (a b : ℕ) → bit_and a b % 2 ≡ min (a % 2) (b % 2)
and_odd a b = omega (arith, and_step a b)

and_half : (a b : ℕ) → bit_and a b / 2 ≡ bit_and (a / 2) (b / 2)
and_half a b = omega (arith, and_step a b)

pub bit_of_and : (i a b : ℕ) → bit i (bit_and a b) ≡ min (bit i a) (bit i b)
bit_of_and zero a b = and_odd a b
bit_of_and (suc i) a b = ap (bit i) (and_half a b) ∙ bit_of_and i (a / 2) (b / 2)

-- what a mask keeps, and what its complement does, make the whole
pub and-not : (w a b : ℕ) → a < 2 ^ w → b < 2 ^ w → bit_and a b + bit_and a (2 ^ w - 1 - b) ≡ a
and-not zero a b ha hb = omega (arith, and_le_l a b, and_le_l a (2 ^ 0 - 1 - b))
and-not (suc w) a b ha hb =
    let mask = 2 ^ suc w - 1 - b in
    let half : mask / 2 ≡ 2 ^ w - 1 - b / 2 = omega (arith, pow-suc 2 w) in
    let odd : mask % 2 ≡ 1 - b % 2 = omega (arith, pow-suc 2 w) in
    let rest = and-not w (a / 2) (b / 2) (half_lt w a ha) (half_lt w b hb) in
    omega (arith, and_step a b, and_step a mask, ap (bit_and (a / 2)) half)

-- ## The lowest digit that is set

pub trailing_set : (w n : ℕ) → n < 2 ^ w → 0 < n → (count_trailing_zeros w n < w) × (bit (count_trailing_zeros w n) n ≡ 1)
unfolding count_trailing_zeros
trailing_set zero n h p = absurd (omega arith)
trailing_set (suc w) n h p = go (n % 2) refl (trailing_set w (n / 2) (half_lt w n h))
  where
    go : (b : ℕ) → n % 2 ≡ b → (0 < n / 2 → (count_trailing_zeros w (n / 2) < w) × (bit (count_trailing_zeros w (n / 2)) (n / 2) ≡ 1))
        → (under b (count_trailing_zeros w (n / 2)) < suc w) × (bit (under b (count_trailing_zeros w (n / 2))) n ≡ 1)
    go zero e rest = let r = rest (omega arith) in (omega arith, r.1)
    go (suc b) e rest = (omega arith, omega arith)

pub trailing_clear : (w i n : ℕ) → i < count_trailing_zeros w n → bit i n ≡ 0
unfolding count_trailing_zeros
trailing_clear zero i n l = absurd (omega arith)
trailing_clear (suc w) i n l = go (n % 2) refl i l (λ j. trailing_clear w j (n / 2))
  where
    go : (b : ℕ) → n % 2 ≡ b → (j : ℕ) → j < under b (count_trailing_zeros w (n / 2)) → ((k : ℕ) → k < count_trailing_zeros w (n / 2) → bit k (n / 2) ≡ 0) → bit j n ≡ 0
    go zero e zero l rest = e
    go zero e (suc j) l rest = rest j (le_of_suc-le-suc l)
    go (suc b) e j l rest = absurd (omega arith)
