-- The rules of the two tables: each is one test over the whole table, which is computed, and a lemma carries it to each entry.
-- Assumes nothing.
use Rattle.std.proofs.Common.{◌≡◌, ℕ, zero, suc, ◌+◌, ◌-◌, ◌%◌, ◌<◌, Bool, true, ◌&&◌, eqb, ltb, List, [], ◌∷◌, length, get_or, sym, ap, ◌∙◌, ap₂, arith}
use native.Mathlib.Nat as nat
use Rattle.std.proofs.lemmas.Bool.{and_parts, eqb-true, ltb-true}
use Rattle.fields.specs.Byte.{times}
use Rattle.fields.specs.ByteLaws.{byte_≡}
use Rattle.fields.specs.ByteProducts.{times_left, times_right}
use Rattle.fields.specs.ByteTables.{power3, Powers, NoLogarithm, Logarithm, Logarithms}
use Rattle.fields.specs.Linear.{at_zero}
use Rattle.fields.proofs.byte_tables.Exponents.{power_add, power_mod, power_inverse}

-- ## The powers

-- the list begins with x, and each entry is 3 times the one before
unfoldable pub threefold : ℕ → List ℕ → Bool
threefold x [] = true
threefold x (y ∷ ys) = eqb y x && threefold (times 3 x) ys

threefold_at : (i : ℕ) (ys : List ℕ) → threefold (power3 i) ys ≡ true → (k : ℕ) → k < length ys → get_or ys k 0 ≡ power3 (i + k)
unfolding threefold power3
threefold_at i [] t k h = absurd (nat.not-suc-le-zero h)
threefold_at i (y ∷ ys) t zero h =
    eqb-true y (power3 i) (and_parts (eqb y (power3 i)) (threefold (times 3 (power3 i)) ys) t).0 ∙ ap power3 (sym (nat.add-zero i))
threefold_at i (y ∷ ys) t (suc k) h =
    threefold_at (suc i) ys (and_parts (eqb y (power3 i)) (threefold (times 3 (power3 i)) ys) t).1 k (nat.le_of_suc-le-suc h)
    ∙ ap power3 (nat.suc-add i k ∙ sym (nat.add-suc i k))

-- 255 entries, of which the first is 1 and each is 3 times the one before
unfoldable pub powers_test : List ℕ → Bool
powers_test table = eqb (length table) 255 && threefold 1 table

pub powers_hold : (table : List ℕ) → powers_test table ≡ true → Powers table
unfolding powers_test power3
powers_hold table t =
    let parts = and_parts (eqb (length table) 255) (threefold 1 table) t in
    let long = eqb-true (length table) 255 parts.0 in
    record {
      entry = λ n.
          threefold_at 0 table parts.1 (n % 255) (omega (arith, nat.mod-lt n {m = 255} (omega arith)))
          ∙ ap power3 (nat.zero-add (n % 255)) ∙ power_mod n;
    }

-- ## The logarithms

-- the powers of 3 from x on, n of them
unfoldable pub run : ℕ → ℕ → List ℕ
run zero x = []
run (suc n) x = x ∷ run n (times 3 x)

run_at : (n i k : ℕ) → k < n → get_or (run n (power3 i)) k 0 ≡ power3 (i + k)
unfolding run power3
run_at zero i k h = absurd (nat.not-suc-le-zero h)
run_at (suc n) i zero h = ap power3 (sym (nat.add-zero i))
run_at (suc n) i (suc k) h = run_at n (suc i) k (nat.le_of_suc-le-suc h) ∙ ap power3 (nat.suc-add i k ∙ sym (nat.add-suc i k))

-- the entries are places among the powers, and v, v + 1 and so on stand there
unfoldable pub placed : List ℕ → ℕ → List ℕ → Bool
placed ps v [] = true
placed ps v (e ∷ es) = (ltb e 255 && eqb (get_or ps e 0) v) && placed ps (suc v) es

placed_at : (ps : List ℕ) (v : ℕ) (es : List ℕ) → placed ps v es ≡ true → (k : ℕ) → k < length es → (get_or es k 0 < 255) × (get_or ps (get_or es k 0) 0 ≡ v + k)
unfolding placed
placed_at ps v [] t k h = absurd (nat.not-suc-le-zero h)
placed_at ps v (e ∷ es) t zero h =
    let here = and_parts (ltb e 255) (eqb (get_or ps e 0) v) (and_parts (ltb e 255 && eqb (get_or ps e 0) v) (placed ps (suc v) es) t).0 in
    (ltb-true e 255 here.0, eqb-true (get_or ps e 0) v here.1 ∙ sym (nat.add-zero v))
placed_at ps v (e ∷ es) t (suc k) h =
    let rest = placed_at ps (suc v) es (and_parts (ltb e 255 && eqb (get_or ps e 0) v) (placed ps (suc v) es) t).1 k (nat.le_of_suc-le-suc h) in
    (rest.0, rest.1 ∙ nat.suc-add v k ∙ sym (nat.add-suc v k))

-- 255 entries, places of 1, 2 and so on among the powers
unfoldable pub logarithms_test : List ℕ → Bool
logarithms_test table = eqb (length table) 255 && placed (run 255 1) 1 table

pub logarithm_of : (v e : ℕ) → 0 < v → e < 255 → power3 e ≡ v → Logarithm v e
logarithm_of v e pos small is =
    record {
      some = pos;
      small = small;
      power = is;
      product = λ w f at. power_add e f ∙ ap₂ times is at;
      inverts = power_inverse v e pos is small;
    }

pub logarithms_hold : (table : List ℕ) → logarithms_test table ≡ true → Logarithms table
unfolding logarithms_test power3
logarithms_hold table t =
    let parts = and_parts (eqb (length table) 255) (placed (run 255 1) 1 table) t in
    let long = eqb-true (length table) 255 parts.0 in
    record {
      entry = λ v some h.
          let e = get_or table (v - 1) 0 in
          let at = placed_at (run 255 1) 1 table parts.1 (v - 1) (omega arith) in
          let is : 1 + (v - 1) ≡ v = omega arith in
          logarithm_of v e some at.0 (ap power3 (sym (nat.zero-add e)) ∙ sym (run_at 255 0 e at.0) ∙ at.1 ∙ is);
    }

pub none_of_zero : NoLogarithm 0
none_of_zero = record { zero = λ x e. byte_≡ e; left = λ w. at_zero (λ x. times x w) (times_left w); right = λ w. at_zero (times w) (times_right w) }
