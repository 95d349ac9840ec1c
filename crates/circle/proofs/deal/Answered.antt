-- What a dealing that is answered with a circle has met. Assumes nothing.
use Rattle.std.proofs.Common.{◌≡◌, ℕ, ◌-◌, ◌*◌, ◌≤◌, Bool, true, false, cond, not, ◌||◌, eqb, ltb, Ok, Err, Result, refl, arith}
use Rattle.std.proofs.lemmas.Bool.{or_parts, not-false, ltb-false, eqb-true}
use Rattle.circle.specs.Deal.{deal_answer}
use Rattle.circle.specs.Ids.{size, within_largest}
use Rattle.circle.specs.State.{Facts}

-- a test that was not denied
pub passed : {A E : Type 0} (b : Bool) (e : E) (rest : Result A E) (a : A) → cond b (Err e) rest ≡ Ok a → (b ≡ false) × (rest ≡ Ok a)
passed true e rest a is = let z : ◌≡◌ {A = ℕ} 0 1 = cc in absurd (omega_false z)
  where
    omega_false : ◌≡◌ {A = ℕ} 0 1 → ⊥
    omega_false z = omega arith
passed false e rest a is = (refl, is)

pub record Met (largest roll threshold places key numbers table : ℕ) (c : Facts) : Type 0 where
  pub is : c ≡ record { roll = roll; threshold = threshold; epoch = 0; places = places }
  pub few : places ≤ 32
  pub known : within_largest roll largest ≡ true
  pub low : 2 ≤ threshold
  pub high : threshold ≤ size roll
  pub key_length : key ≡ places
  pub numbers_length : numbers ≡ places * (threshold - 1)

pub deal_met : (largest roll threshold places key numbers table : ℕ) (c : Facts)
    → deal_answer largest roll threshold places key numbers table ≡ Ok c → Met largest roll threshold places key numbers table c
deal_met largest roll threshold places key numbers table c ok =
    let a = passed (ltb places 1 || ltb 32 places) _ _ c ok in
    let b = passed (not (within_largest roll largest)) _ _ c a.1 in
    let d = passed (ltb threshold 2 || ltb (size roll) threshold) _ _ c b.1 in
    let e = passed (not (eqb key places) || (not (eqb numbers (places * (threshold - 1))) || not (eqb table (32 * places)))) _ _ c d.1 in
    let count = or_parts (ltb places 1) (ltb 32 places) a.0 in
    let bounds = or_parts (ltb threshold 2) (ltb (size roll) threshold) d.0 in
    let first = or_parts (not (eqb key places)) _ e.0 in
    let second = or_parts (not (eqb numbers (places * (threshold - 1)))) _ first.1 in
    record {
      is = cc;
      few = ltb-false 32 places count.1;
      known = not-false _ b.0;
      low = ltb-false threshold 2 bounds.0;
      high = ltb-false (size roll) threshold bounds.1;
      key_length = eqb-true key places (not-false _ first.0);
      numbers_length = eqb-true numbers (places * (threshold - 1)) (not-false _ second.0);
    }
