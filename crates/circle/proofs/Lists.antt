-- Lists whose elements all have a property, and lists of different elements. Assumes nothing.
use Rattle.std.proofs.Common.{◌≢◌, List, [], ◌∷◌, ◌++◌, map, sym, refl, ap, subst, inl, inr}
use Rattle.std.specs.List.{AllByRecursion}
use Rattle.circle.specs.Lists.{In, Distinct}

module _ {A : Type 0} where
  -- `all_of P xs` and `all-at P xs` turn a function on the elements into `AllByRecursion P xs` and back
  pub all_of : (P : A → Type 0) (xs : List A) → ((x : A) → In x xs → P x) → AllByRecursion P xs
  all_of P [] h = tt
  all_of P (x ∷ xs) h = (h x (inl refl), all_of P xs (λ y m. h y (inr m)))

  pub all-at : (P : A → Type 0) (xs : List A) → AllByRecursion P xs → (x : A) → In x xs → P x
  all-at P [] a x m = absurd m
  all-at P (y ∷ ys) a x (inl e) = subst P (sym e) a.0
  all-at P (y ∷ ys) a x (inr m) = all-at P ys a.1 x m

  pub mem_left : (xs ys : List A) (x : A) → In x xs → In x (xs ++ ys)
  mem_left [] ys x m = absurd m
  mem_left (y ∷ xs) ys x (inl e) = inl e
  mem_left (y ∷ xs) ys x (inr m) = inr (mem_left xs ys x m)

  pub mem_right : (xs ys : List A) (x : A) → In x ys → In x (xs ++ ys)
  mem_right [] ys x m = m
  mem_right (y ∷ xs) ys x m = inr (mem_right xs ys x m)

  -- an element in the middle differs from all others
  pub distinct_middle : (xs : List A) (x : A) (ys : List A) → Distinct (xs ++ (x ∷ ys)) → AllByRecursion (λ y. x ≢ y) (xs ++ ys)
  distinct_middle [] x ys d = d.0
  distinct_middle (z ∷ xs) x ys d =
      let apart : z ≢ x = all-at (λ y. z ≢ y) (xs ++ (x ∷ ys)) d.0 x (mem_right xs (x ∷ ys) x (inl refl)) in
      ((λ e. apart (sym e)), distinct_middle xs x ys d.1)

module _ {A B : Type 0} (f : A → B) where
  pub mem-map : (xs : List A) (x : A) → In x xs → In (f x) (map f xs)
  mem-map [] x m = absurd m
  mem-map (y ∷ xs) x (inl e) = inl (ap f e)
  mem-map (y ∷ xs) x (inr m) = inr (mem-map xs x m)

  pub all_map : (P : B → Type 0) (xs : List A) → AllByRecursion (λ x. P (f x)) xs → AllByRecursion P (map f xs)
  all_map P [] h = tt
  all_map P (x ∷ xs) h = (h.0, all_map P xs h.1)

  pub all_unmap : (P : B → Type 0) (xs : List A) → AllByRecursion P (map f xs) → AllByRecursion (λ x. P (f x)) xs
  all_unmap P [] h = tt
  all_unmap P (x ∷ xs) h = (h.0, all_unmap P xs h.1)
