-- The numbers of one place, and of all places one after another. Assumes nothing.
use Rattle.std.proofs.Common.{◌≡◌, ℕ, zero, suc, ◌+◌, ◌*◌, ◌<◌, List, [], ◌∷◌, ◌++◌, length, take, drop, sym, refl, ap, ◌∙◌, suc-mul, zero-mul, arith, length-append, length-drop, length-take}
use Rattle.std.proofs.lemmas.List.{take_at}
use Rattle.fields.specs.Field.{Ops}
use Rattle.circle.specs.DealLaws.{plus}
use Rattle.circle.specs.Table.{piece}
use Rattle.circle.proofs.table.Grids.{piece_end}

module _ {K : Type 0} where
  -- all places, one after another
  abbrev pub join : ℕ → (ℕ → List K) → List K
  join zero u = []
  join (suc n) u = u zero ++ join n (λ p. u (suc p))

  pub length_join : (n d : ℕ) (u : ℕ → List K) → ((p : ℕ) → length (u p) ≡ d) → length (join n u) ≡ n * d
  length_join zero d u long = sym (zero-mul d)
  length_join (suc n) d u long =
      omega (arith, length-append (u zero) (join n (λ p. u (suc p))), length_join n d (λ p. u (suc p)) (λ p. long (suc p)), long zero, suc-mul n d)

  drop-front : (xs ys : List K) (n : ℕ) → drop (length xs + n) (xs ++ ys) ≡ drop n ys
  drop-front [] ys n = ap (λ m. drop m ys) (omega arith)
  drop-front (x ∷ xs) ys n =
      let e : length (x ∷ xs) + n ≡ suc (length xs + n) = omega arith in
      ap (λ m. drop m (x ∷ (xs ++ ys))) e ∙ drop-front xs ys n

  pub piece_join : (n d p : ℕ) (u : ℕ → List K) → p < n → ((q : ℕ) → length (u q) ≡ d) → piece d (join n u) p ≡ u p
  piece_join zero d p u less long = absurd (omega arith)
  piece_join (suc n) d zero u less long =
      ap (λ m. take d (drop m (join (suc n) u))) (zero-mul d) ∙ take_at (u zero) (join n (λ p. u (suc p))) d (long zero)
  piece_join (suc n) d (suc p) u less long =
      let rest = join n (λ q. u (suc q)) in
      let far : suc p * d ≡ length (u zero) + p * d = omega (arith, suc-mul p d, long zero) in
      ap (λ m. take d (drop m (u zero ++ rest))) far
      ∙ ap (take d) (drop-front (u zero) rest (p * d))
      ∙ piece_join n d p (λ q. u (suc q)) (omega arith) (λ q. long (suc q))

pub length_piece : {K : Type 0} (n d p : ℕ) (numbers : List K) → p < n → length numbers ≡ n * d → length (piece d numbers p) ≡ d
length_piece n d p numbers less long =
    omega (arith, length-take d (drop (p * d) numbers), length-drop (p * d) numbers, piece_end p n d less)

-- ## Sums of lists of numbers

module _ {K : Type 0} (F : Ops K) where
  pub length_plus : (f g : List K) → length (plus F f g) ≡ length f
  length_plus [] g = refl
  length_plus (c ∷ f) [] = refl
  length_plus (c ∷ f) (d ∷ g) = ap suc (length_plus f g)

  plus_none : (f : List K) → plus F f [] ≡ f
  plus_none [] = refl
  plus_none (c ∷ f) = refl

  take_plus : (n : ℕ) (f g : List K) → take n (plus F f g) ≡ plus F (take n f) (take n g)
  take_plus zero f g = refl
  take_plus (suc n) [] g = refl
  take_plus (suc n) (c ∷ f) [] = refl
  take_plus (suc n) (c ∷ f) (d ∷ g) = ap {B = List K} (λ r. F.add c d ∷ r) (take_plus n f g)

  drop_plus : (n : ℕ) (f g : List K) → drop n (plus F f g) ≡ plus F (drop n f) (drop n g)
  drop_plus zero f g = refl
  drop_plus (suc n) [] g = refl
  drop_plus (suc n) (c ∷ f) [] = sym (plus_none (drop n f))
  drop_plus (suc n) (c ∷ f) (d ∷ g) = drop_plus n f g

  pub piece_plus : (d p : ℕ) (f g : List K) → piece d (plus F f g) p ≡ plus F (piece d f p) (piece d g p)
  piece_plus d p f g = ap (take d) (drop_plus (p * d) f g) ∙ take_plus d (drop (p * d) f) (drop (p * d) g)
