-- What a finite field is, with the points of its ids, and the bytes and numbers of its elements. Assumes nothing.
use Rattle.std.specs.Prelude.{◌≡◌, ℕ, ◌^◌, ◌<◌, ◌≤◌, Bool, true, nat_le, ◌≢◌, List, length, Decides}
use Rattle.std.proofs.lemmas.Bool.{leb-true}
use Rattle.std.specs.List.{AllByRecursion}

-- The operations. `inv` is total, so that a quotient is a formula; nothing is said of the inverse of zero.
pub record Ops (K : Type 0) : Type 0 where
  pub zero : K
  pub one : K
  pub add : K → K → K
  pub mul : K → K → K
  pub neg : K → K
  pub inv : K → K

-- the difference
abbrev pub sub : {K : Type 0} → Ops K → K → K → K
sub F x y = F.add x (F.neg y)

-- The laws of a commutative ring.
pub record RingLaws {K : Type 0} (F : Ops K) : Type 0 where
  pub add_assoc : (x y z : K) → F.add (F.add x y) z ≡ F.add x (F.add y z)
  pub add_comm : (x y : K) → F.add x y ≡ F.add y x
  pub add-zero : (x : K) → F.add x F.zero ≡ x
  pub add-neg : (x : K) → F.add x (F.neg x) ≡ F.zero
  pub mul_assoc : (x y z : K) → F.mul (F.mul x y) z ≡ F.mul x (F.mul y z)
  pub mul_comm : (x y : K) → F.mul x y ≡ F.mul y x
  pub mul-one : (x : K) → F.mul x F.one ≡ x
  pub distrib : (x y z : K) → F.mul x (F.add y z) ≡ F.add (F.mul x y) (F.mul x z)

-- The laws of a field.
pub record FieldLaws {K : Type 0} (F : Ops K) : Type 0 where
  pub ring : RingLaws F
  pub zero≢one : F.zero ≢ F.one
  pub mul-inv : (x : K) → x ≢ F.zero → F.mul x (F.inv x) ≡ F.one

-- A test of equality.
pub record Equality (K : Type 0) : Type 0 where
  pub same : K → K → Bool
  pub tells : (x y : K) → Decides (same x y) (x ≡ y)

-- The points of the ids from 1 up to the largest: they differ, and none is zero.
pub record Points {K : Type 0} (F : Ops K) : Type 0 where
  pub largest : ℕ
  pub at : ℕ → K
  pub some : 1 ≤ largest
  pub few : largest ≤ 32
  pub not-zero : (i : ℕ) → 1 ≤ i → i ≤ largest → at i ≢ F.zero
  pub apart : (i j : ℕ) → 1 ≤ i → i ≤ largest → 1 ≤ j → j ≤ largest → at i ≡ at j → i ≡ j

-- The byte forms: one for each element, of the field's length; and the byte that names the field.
pub record Forms (K : Type 0) : Type 0 where
  pub mark : ℕ
  pub width : ℕ
  pub bytes : K → List ℕ
  pub some : 1 ≤ width
  pub few : width ≤ 4
  pub wide : (x : K) → length (bytes x) ≡ width
  pub small : (x : K) → AllByRecursion (λ b. b < 256) (bytes x)
  pub apart : (x y : K) → bytes x ≡ bytes y → x ≡ y

-- The elements, numbered from 0 up to the size.
pub record Finite (K : Type 0) : Type 0 where
  pub size : ℕ
  pub number : K → ℕ
  pub element : (n : ℕ) → n < size → K
  pub few : size ≤ 2 ^ 32
  pub below : (x : K) → number x < size
  pub numbered : (n : ℕ) (h : n < size) → number (element n h) ≡ n
  pub apart : (x y : K) → number x ≡ number y → x ≡ y

-- a bound that is tested
pub as_tested : {n m : ℕ} → nat_le n m ≡ true → n ≤ m
as_tested {n} {m} is = leb-true n m is
