-- Lists: what stands in them, in which order, and what a filter keeps. Assumes nothing.
use Rattle.std.proofs.Common.{◌≡◌, ℕ, zero, suc, ◌+◌, ◌<◌, ◌≤◌, Bool, true, false, cond, not, ◌&&◌, eqb, List, [], ◌∷◌, ◌++◌, length, Some, filter, sym, refl, ap, ◌∙◌, ap₂, inl, inr, arith}
use Rattle.std.specs.List.{slice_get, range_with_len, AllByRecursion}
use Rattle.std.proofs.ByRecursion.{all_kept_by, All-weaker}
use Rattle.std.proofs.lemmas.Bool.{cases_eq, cond-true, cond-false, and_left, and_right, eq-eqb, ne_eqb}
use Rattle.circle.specs.Ids.{Ascends}
use Rattle.circle.specs.Lists.{In, Distinct}
use Rattle.circle.proofs.Lists.{all_of, all-at}

pub ascends_distinct : (xs : List ℕ) → Ascends xs → Distinct xs
ascends_distinct [] a = tt
ascends_distinct (x ∷ xs) a = (All-weaker _ _ (λ y l e. omega arith) xs a.0, ascends_distinct xs a.1)

pub nth_after : {A : Type 0} (xs ys : List A) (y : A) → slice_get (xs ++ y ∷ ys) (length xs) ≡ Some y
nth_after [] ys y = refl
nth_after (x ∷ xs) ys y = nth_after xs ys y

pub nth_below : {A : Type 0} (xs : List A) (k : ℕ) (x : A) → slice_get xs k ≡ Some x → k < length xs
nth_below [] k x at = let z : ◌≡◌ {A = ℕ} 0 1 = cc in absurd (omega arith)
nth_below (y ∷ ys) zero x at = omega arith
nth_below (y ∷ ys) (suc k) x at = omega (arith, nth_below ys k x at)

-- ## Numbers in a row

pub in_counting : (a n x : ℕ) → In x (range_with_len a n) → (a ≤ x) × (x < a + n)
in_counting a zero x m = absurd m
in_counting a (suc n) x (inl e) = (omega arith, omega arith)
in_counting a (suc n) x (inr m) = let r = in_counting (a + 1) n x m in (omega arith, omega arith)

pub counting_in : (a n x : ℕ) → a ≤ x → x < a + n → In x (range_with_len a n)
counting_in a zero x l u = absurd (omega arith)
counting_in a (suc n) x l u =
    elim (cases_eq x a) [ inl e ↦ inl e | inr ne ↦ inr (counting_in (a + 1) n x (omega arith) (omega arith)) ]

-- those before one of them, and those after it
pub counting_split : (a n m x r : ℕ) → x ≡ a + n → m ≡ n + 1 + r → range_with_len a m ≡ range_with_len a n ++ (x ∷ range_with_len (x + 1) r)
counting_split a zero m x r e long =
    ap (range_with_len a) {x = m} {y = suc r} (omega arith) ∙ ap (λ y. y ∷ range_with_len (y + 1) r) {x = a} {y = x} (omega arith)
counting_split a (suc n) m x r e long =
    ap (range_with_len a) {x = m} {y = suc (n + 1 + r)} (omega arith)
    ∙ ap {B = List ℕ} (λ ys. a ∷ ys) (counting_split (a + 1) n (n + 1 + r) x r (omega arith) refl)

pub counting_ascends : (a n : ℕ) → Ascends (range_with_len a n)
counting_ascends a zero = tt
counting_ascends a (suc n) =
    (all_of _ (range_with_len (a + 1) n) (λ x m. let l = (in_counting (a + 1) n x m).0 in omega arith), counting_ascends (a + 1) n)

-- ## What a filter keeps

module _ {A : Type 0} (p : A → Bool) where
  pub in_kept : (xs : List A) (x : A) → In x (filter p xs) → In x xs × (p x ≡ true)
  in_kept [] x m = absurd m
  in_kept (y ∷ ys) x m = go (p y) refl (in_kept ys x) m
    where
      go : (b : Bool) → p y ≡ b → (In x (filter p ys) → In x ys × (p x ≡ true)) → In x (cond b (y ∷ filter p ys) (filter p ys))
          → In x (y ∷ ys) × (p x ≡ true)
      go true e rest (inl q) = (inl q, ap p q ∙ e)
      go true e rest (inr n) = (inr (rest n).0, (rest n).1)
      go false e rest n = (inr (rest n).0, (rest n).1)

  pub kept_in : (xs : List A) (x : A) → In x xs → p x ≡ true → In x (filter p xs)
  kept_in [] x m e = absurd m
  kept_in (y ∷ ys) x (inl q) e = rw (sym (ap p q) ∙ e) (inl q)
  kept_in (y ∷ ys) x (inr m) e = go (p y) (kept_in ys x m e)
    where
      go : (b : Bool) → In x (filter p ys) → In x (cond b (y ∷ filter p ys) (filter p ys))
      go true r = inr r
      go false r = r

  pub kept_same : (q : A → Bool) (xs : List A) → ((x : A) → In x xs → p x ≡ q x) → filter p xs ≡ filter q xs
  kept_same q [] same = refl
  kept_same q (x ∷ xs) same =
      ap₂ (λ b ys. cond b (x ∷ ys) ys) (same x (inl refl)) (kept_same q xs (λ y m. same y (inr m)))

pub ascends_kept : (p : ℕ → Bool) (xs : List ℕ) → Ascends xs → Ascends (filter p xs)
ascends_kept p [] a = tt
ascends_kept p (x ∷ xs) a = go (p x) (all_kept_by p _ xs a.0) (ascends_kept p xs a.1)
  where
    go : (b : Bool) → AllByRecursion (λ y. x < y) (filter p xs) → Ascends (filter p xs) → Ascends (cond b (x ∷ filter p xs) (filter p xs))
    go true l r = (l, r)
    go false l r = r

-- p, but not of h
abbrev pub but : ℕ → (ℕ → Bool) → ℕ → Bool
but h p k = not (eqb k h) && p k

-- the lowest that passes comes first, and then the others that pass
pub kept_first : (p : ℕ → Bool) (h : ℕ) (xs : List ℕ) → Ascends xs → In h xs → p h ≡ true → ((k : ℕ) → k < h → p k ≡ false)
    → filter p xs ≡ h ∷ filter (but h p) xs
kept_first p h [] a m on below = absurd m
kept_first p h (x ∷ xs) a (inl e) on below =
    let rest : filter p xs ≡ filter (but h p) xs =
    kept_same p (but h p) xs (λ k m. let l = all-at _ xs a.0 k m in ap (λ b. not b && p k) (sym (ne_eqb k h (λ q. omega arith)))) in
    cond-true (p x) (x ∷ filter p xs) (filter p xs) (sym (ap p e) ∙ on)
    ∙ ap₂ (λ y ys. y ∷ ys) (sym e) (rest ∙ sym (cond-false _ (x ∷ filter (but h p) xs) _ (and_left _ (p x) (ap not (eq-eqb x h (sym e))))))
kept_first p h (x ∷ xs) a (inr m) on below =
    let off = below x (all-at _ xs a.0 h m) in
    cond-false (p x) (x ∷ filter p xs) (filter p xs) off ∙ kept_first p h xs a.1 m on below
    ∙ ap (λ ys. h ∷ ys) (sym (cond-false _ (x ∷ filter (but h p) xs) _ (and_right (not (eqb x h)) _ off)))
