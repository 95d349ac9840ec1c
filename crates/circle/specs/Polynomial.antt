-- Polynomials as lists of coefficients, the lowest power first; their values, and Lagrange's formula. Assumes nothing.
use Rattle.std.specs.Prelude.{◌≡◌, ℕ, ◌+◌, ◌<◌, ◌≤◌, ◌≢◌, List, [], ◌∷◌, map, length, slice_index_or}
use Rattle.std.specs.List.{AllByRecursion}
use Rattle.fields.specs.Field.{Ops, sub}
use Rattle.circle.specs.Lists.{Distinct, others}

-- The coefficients that a list of numbers gives: the lowest power stands first. Nothing else knows this order.
abbrev pub coefficients : {K : Type 0} → List K → List K
coefficients numbers = numbers

-- a share is a pair: a point, and the value there
abbrev pub points : {K : Type 0} → List (K × K) → List K
points shares = map (λ s. s.0) shares

abbrev pub values : {K : Type 0} → List (K × K) → List K
values shares = map (λ s. s.1) shares

module _ {K : Type 0} (F : Ops K) where
  -- the value of a polynomial at x: c + x (d + x (..))
  abbrev pub eval : List K → K → K
  eval [] x = F.zero
  eval (c ∷ f) x = F.add c (F.mul x (eval f x))

  -- what a list of numbers comes to at x
  abbrev pub value : List K → K → K
  value numbers x = eval (coefficients numbers) x

  -- the polynomial with the constant term k, and the numbers after it
  abbrev pub polynomial : K → List K → List K
  polynomial k numbers = k ∷ coefficients numbers

  -- f goes through each of the shares
  abbrev pub Through : List K → List (K × K) → Type 0
  Through f shares = AllByRecursion (λ s. eval f s.0 ≡ s.1) shares

  -- Lagrange's constant of the point s, for the value at z: the product of (z - k) / (s - k) over the other points k
  abbrev pub constant : List K → K → K → K
  constant [] s z = F.one
  constant (k ∷ ks) s z = F.mul (F.mul (sub F z k) (F.inv (sub F s k))) (constant ks s z)

  -- the constant of the i-th of the points
  abbrev pub constant_of : List K → K → ℕ → K
  constant_of ks z i = constant (others ks i) (slice_index_or ks i F.zero) z

  -- the sum of w i times the value over the values, the first of which is the i-th
  abbrev pub weighted : (ℕ → K) → ℕ → List K → K
  weighted w i [] = F.zero
  weighted w i (v ∷ vs) = F.add (F.mul (w i) v) (weighted w (i + 1) vs)

  abbrev pub sum : List K → K
  sum [] = F.zero
  sum (x ∷ xs) = F.add x (sum xs)

  -- the sum of the shares' values, each times its constant at z
  abbrev pub interpolated : List (K × K) → K → K
  interpolated shares z = weighted (constant_of (points shares) z) 0 (values shares)

-- What is proved of polynomials over any field.
pub record PolynomialLaws {K : Type 0} (F : Ops K) : Type 0 where
  -- n different points fix a polynomial of at most n coefficients
  pub unique : (places f g : List K) → Distinct places → length f ≤ length places → length f ≡ length g
      → AllByRecursion (λ s. eval F f s ≡ eval F g s) places → f ≡ g
  -- Lagrange's formula: the shares of a polynomial of at most as many coefficients give its value anywhere
  pub lagrange : (shares : List (K × K)) (f : List K) (z : K) → Distinct (points shares) → length f ≤ length shares
      → Through F f shares → eval F f z ≡ interpolated F shares z
  -- a polynomial goes through any values, with as many coefficients as there are points
  pub through : (shares : List (K × K)) → Distinct (points shares)
      → (f : List K) × (length f ≡ length shares) × Through F f shares
  -- a polynomial of t coefficients is d at zero, and zero at fewer than t points, none of which is zero
  pub hiding : (known : List K) (t : ℕ) (d : K) → Distinct known → AllByRecursion (λ a. a ≢ F.zero) known → length known < t
      → (f : List K) × (length f ≡ t) × (eval F f F.zero ≡ d) × AllByRecursion (λ a. eval F f a ≡ F.zero) known
