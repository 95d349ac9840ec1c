-- Tests of each element of a list. Assumes nothing.
use Rattle.std.proofs.Common.{◌≡◌, ℕ, zero, suc, ◌+◌, ◌-◌, ◌<◌, ◌≤◌, Bool, true, false, ◌&&◌, List, [], ◌∷◌, map, length, get_or, take, sym, refl, ap, ◌∙◌, inl, inr, arith}
use Rattle.std.specs.List.{list_all, zip, range_with_len, AllByRecursion}
use Rattle.std.proofs.lemmas.Bool.{and_parts, and_from}
use Rattle.circle.specs.Lists.{In}

module _ {A : Type 0} (test : A → Bool) where
  -- what the whole list passes, its elements and parts do
  pub each_at : (xs : List A) (i : ℕ) (d : A) → list_all test xs ≡ true → i < length xs → test (get_or xs i d) ≡ true
  each_at [] i d all within = absurd (omega arith)
  each_at (y ∷ ys) zero d all within = (and_parts (test y) (list_all test ys) all).0
  each_at (y ∷ ys) (suc i) d all within = each_at ys i d (and_parts (test y) (list_all test ys) all).1 (omega arith)

  pub each_read : (xs : List A) (i : ℕ) (x : A) → list_all test xs ≡ true → i < length xs → x ≡ get_or xs i x → test x ≡ true
  each_read xs i x all within read = ap test read ∙ each_at xs i x all within

  pub each_in : (xs : List A) → list_all test xs ≡ true → (x : A) → In x xs → test x ≡ true
  each_in [] all x m = absurd m
  each_in (y ∷ ys) all x (inl e) = ap test e ∙ (and_parts (test y) (list_all test ys) all).0
  each_in (y ∷ ys) all x (inr m) = each_in ys (and_parts (test y) (list_all test ys) all).1 x m

  pub each_take : (i : ℕ) (xs : List A) → list_all test xs ≡ true → list_all test (take i xs) ≡ true
  each_take zero xs all = refl
  each_take (suc i) [] all = refl
  each_take (suc i) (x ∷ xs) all =
      let parts = and_parts (test x) (list_all test xs) all in
      and_from (test x) (list_all test (take i xs)) parts.0 (each_take i xs parts.1)

-- a test that holds of whatever has a property
pub pass_all : {A : Type 0} (P : A → Type 0) (test : A → Bool) → ((x : A) → P x → test x ≡ true) → (xs : List A) → AllByRecursion P xs → list_all test xs ≡ true
pass_all P test holds [] all = refl
pass_all P test holds (x ∷ xs) all = and_from (test x) (list_all test xs) (holds x all.0) (pass_all P test holds xs all.1)

-- a weaker test
pub each_also : {A : Type 0} (test other : A → Bool) → ((x : A) → test x ≡ true → other x ≡ true) → (xs : List A) → list_all test xs ≡ true → list_all other xs ≡ true
each_also test other weaker [] all = refl
each_also test other weaker (x ∷ xs) all =
    let parts = and_parts (test x) (list_all test xs) all in
    and_from (other x) (list_all other xs) (weaker x parts.0) (each_also test other weaker xs parts.1)

-- a test of pairs from two lists that go along a third
pub each_pair : {A B C : Type 0} (test : B × C → Bool) (f : A → B) (g : A → C) (xs : List A) → list_all test (zip (map f xs) (map g xs)) ≡ list_all (λ x. test (f x, g x)) xs
each_pair test f g [] = refl
each_pair test f g (x ∷ xs) = ap (λ b. test (f x, g x) && b) (each_pair test f g xs)

-- ## A loop that tests each number below n, at the turn p

module _ (test : ℕ → Bool) (n p : ℕ) where
  count_step : p < n → list_all test (range_with_len p (n - p)) ≡ (test p && list_all test (range_with_len (p + 1) (n - (p + 1))))
  count_step less =
      let e : n - p ≡ suc (n - (p + 1)) = omega arith in
      ap (λ k. list_all test (range_with_len p k)) e

  pub count_fails : p < n → test p ≡ false → list_all test (range_with_len p (n - p)) ≡ list_all test (range_with_len 0 n) → false ≡ list_all test (range_with_len 0 n)
  count_fails less fails so_far = sym (count_step less ∙ ap (λ b. b && list_all test (range_with_len (p + 1) (n - (p + 1)))) fails) ∙ so_far

  pub count_goes_on : p < n → test p ≡ true → list_all test (range_with_len p (n - p)) ≡ list_all test (range_with_len 0 n)
      → list_all test (range_with_len (p + 1) (n - (p + 1))) ≡ list_all test (range_with_len 0 n)
  count_goes_on less passes so_far = sym (count_step less ∙ ap (λ b. b && list_all test (range_with_len (p + 1) (n - (p + 1)))) passes) ∙ so_far

  pub count_ends : n ≤ p → list_all test (range_with_len p (n - p)) ≡ list_all test (range_with_len 0 n) → true ≡ list_all test (range_with_len 0 n)
  count_ends past so_far =
      let e : n - p ≡ 0 = omega arith in
      sym (ap (λ k. list_all test (range_with_len p k)) e) ∙ so_far
