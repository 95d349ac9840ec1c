-- The residues modulo p are a field if each but zero has an inverse. These are proofs: they stand here since the ghost
-- members of the field hold them, and a reader need not believe them. Assumes nothing.
use Rattle.std.specs.Prelude.{◌≡◌, ℕ, zero, suc, ◌+◌, ◌-◌, ◌*◌, ◌/◌, ◌%◌, ◌^◌, ◌<◌, ◌≤◌, Bool, true, ◌&&◌, length, ◌==◌, refl}
use Rattle.std.proofs.Common.{sym, ap, subst, ◌∙◌, ⊎_elim, arith, eq-eqb}
use mathlib.Core.HLevel.{is_prop→PathP}
use Rattle.std.proofs.Math.Nat as nat
use Rattle.std.proofs.Math.Bridge.{le_prop}
use Rattle.std.specs.List.{AllByRecursion}
use Rattle.std.proofs.lemmas.Bool.{and_parts, eqb-true}
use Rattle.fields.specs.Field.{Ops, RingLaws, FieldLaws, Equality}
use Rattle.fields.specs.Residue.{operations, Width, single, double, count, span, form}
use Rattle.fields.specs.declared.residue.Residue.{Residue}

-- the invariant has one proof, so residues are equal where their values are
pub residue_≡ : {p : ℕ} {x y : Residue p} → x.value ≡ y.value → x ≡ y
residue_≡ {p} {x} {y} e =
    λ i. record { value = e i; ok = is_prop→PathP (λ j. e j < p) (λ j. le_prop {n = suc (e j)} {m = p}) x.ok y.ok i }

-- ## Products modulo p

pub mod_mul_mod : (p a b : ℕ) → (a % p * b) % p ≡ a * b % p
mod_mul_mod p a b =
    let parts : a * b ≡ a % p * b + p * (a / p * b) =
    ap (λ n. n * b) (sym (nat.mod-add-div a p)) ∙ nat.add-mul (a % p) (p * (a / p)) b ∙ ap (λ n. a % p * b + n) (nat.mul_assoc p (a / p) b) in
    sym (ap (λ n. n % p) parts ∙ nat.add-mul-mod_self_left (a % p * b) p (a / p * b))

pub mul_mod_mod : (p a b : ℕ) → (a * (b % p)) % p ≡ a * b % p
mul_mod_mod p a b =
    ap (λ n. n % p) (nat.mul_comm a (b % p)) ∙ mod_mul_mod p b a ∙ ap (λ n. n % p) (nat.mul_comm b a)

-- ## The laws

-- The power p - 2 inverts each residue but zero. Tested, not proved by Fermat's theorem: a field needs no more of p.
abbrev pub inverts : ℕ → ℕ → Bool
inverts p zero = true
inverts p (suc n) = (suc n * (suc n ^ (p - 2) % p)) % p == 1 && inverts p n

inverts_at : (p n : ℕ) → inverts p n ≡ true → (v : ℕ) → 0 < v → v ≤ n → (v * (v ^ (p - 2) % p)) % p ≡ 1
inverts_at p zero all v pos le = absurd (nat.not-suc-le-zero (nat.le_trans pos le))
inverts_at p (suc n) all v pos le =
    let parts = and_parts ((suc n * (suc n ^ (p - 2) % p)) % p == 1) (inverts p n) all in
    ⊎_elim (λ is. subst (λ m. (m * (m ^ (p - 2) % p)) % p ≡ 1) (sym is) (eqb-true ((suc n * (suc n ^ (p - 2) % p)) % p) 1 parts.0))
    (λ below. inverts_at p n parts.1 v pos (nat.le_of_suc-le-suc below)) (nat.eq-or-lt_of_le le)

-- a modulus whose residues are a field
pub record Prime (p : ℕ) : Type 0 where
  pub big : 1 < p
  pub tested : inverts p (p - 1) ≡ true

whole : {p : ℕ} (x : Residue p) → x.value + (p - x.value) ≡ p
whole x = omega (arith, x.ok)

module _ (p : ℕ) (prime : Prime p) where
  abbrev ops : Ops (Residue p)
  ops = operations p prime.big

  ring_laws : RingLaws ops
  ring_laws = record {
    add_assoc = λ x y z. residue_≡ (nat.mod-add-mod (x.value + y.value) p z.value ∙ ap (λ n. n % p) (nat.add_assoc x.value y.value z.value) ∙ sym (nat.add-mod-mod x.value (y.value + z.value) p));
    add_comm = λ x y. residue_≡ (ap (λ n. n % p) (nat.add_comm x.value y.value));
    add-zero = λ x. residue_≡ (ap (λ n. n % p) (nat.add-zero x.value) ∙ nat.mod-eq_of_lt x.ok);
    add-neg = λ x. residue_≡ (nat.add-mod-mod x.value (p - x.value) p ∙ ap (λ n. n % p) (whole x) ∙ nat.mod_self p);
    mul_assoc = λ x y z. residue_≡ (mod_mul_mod p (x.value * y.value) z.value ∙ ap (λ n. n % p) (nat.mul_assoc x.value y.value z.value) ∙ sym (mul_mod_mod p x.value (y.value * z.value)));
    mul_comm = λ x y. residue_≡ (ap (λ n. n % p) (nat.mul_comm x.value y.value));
    mul-one = λ x. residue_≡ (ap (λ n. n % p) (nat.mul-one x.value) ∙ nat.mod-eq_of_lt x.ok);
    distrib = λ x y z. residue_≡ (mul_mod_mod p x.value (y.value + z.value) ∙ ap (λ n. n % p) (nat.mul-add x.value y.value z.value) ∙ nat.add-mod (x.value * y.value) (x.value * z.value) p);
  }

  pub prime_laws : FieldLaws ops
  prime_laws = record {
    ring = ring_laws;
    zero≢one = λ e. let z : ◌≡◌ {A = ℕ} 0 1 = ap (λ x. x.value) e in omega arith;
    mul-inv = λ x not. residue_≡ (inverts_at p (p - 1) prime.tested x.value (nat.pos_of_ne-zero (λ e. not (residue_≡ e))) (omega (arith, x.ok)));
  }

abbrev pub equality : (p : ℕ) → Equality (Residue p)
equality p = record {
  same = λ x y. (x.value == y.value);
  tells = λ x y. (λ e. residue_≡ (eqb-true x.value y.value e), λ e. eq-eqb x.value y.value (ap (λ z. z.value) e));
}

-- ## Byte forms

pub form_length : (w : Width) (v : ℕ) → length (form w v) ≡ count w
form_length single v = refl
form_length double v = refl

pub form_small : (w : Width) (v : ℕ) → v < span w → AllByRecursion (λ b. b < 256) (form w v)
form_small single v less = (less, tt)
form_small double v less = (omega arith, (omega arith, tt))

pub form_apart : (w : Width) (u v : ℕ) → form w u ≡ form w v → u ≡ v
form_apart single u v e = cc
form_apart double u v e =
    let high : u / 256 ≡ v / 256 = cc in
    let low : u % 256 ≡ v % 256 = cc in
    omega arith

pub count_some : (w : Width) → 1 ≤ count w
count_some single = omega arith
count_some double = omega arith

pub count_few : (w : Width) → count w ≤ 4
count_few single = omega arith
count_few double = omega arith
