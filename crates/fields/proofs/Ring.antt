-- Equations of a commutative ring, by computation. Assumes nothing.
use Rattle.std.proofs.Common.{◌≡◌, ℕ, zero, suc, List, [], ◌∷◌, get_or, sym, refl, ap, ◌∙◌, ap₂}
use Rattle.fields.specs.Field.{Ops, RingLaws, sub}

-- ## Expressions and their normal form

infixl 65 ◌:+◌
infixl 70 ◌:*◌
infix 80 :-◌
pub data Expr : Type 0 where
  var : ℕ → Expr
  :0 : Expr
  :1 : Expr
  ◌:+◌ : Expr → Expr → Expr
  ◌:*◌ : Expr → Expr → Expr
  :-◌ : Expr → Expr

pub data Sign : Type 0 where
  pos : Sign
  neg : Sign

-- A sum of signed monomials. A monomial is the list of its variables in order.
-- The terms stand in the order of their monomials, and a coefficient of 3 is three equal terms.
pub data Sum : Type 0 where
  nil : Sum
  term : Sign → List ℕ → Sum → Sum

pub data Order : Type 0 where
  less : Order
  same : Order
  more : Order

abbrev pub order : ℕ → ℕ → Order
order zero zero = same
order zero (suc n) = less
order (suc m) zero = more
order (suc m) (suc n) = order m n

abbrev pub then : Order → Order → Order
then less o = less
then same o = o
then more o = more

abbrev pub orders : List ℕ → List ℕ → Order
orders [] [] = same
orders [] (j ∷ v) = less
orders (i ∷ u) [] = more
orders (i ∷ u) (j ∷ v) = then (order i j) (orders u v)

abbrev pub flip : Sign → Sign
flip pos = neg
flip neg = pos

abbrev pub times : Sign → Sign → Sign
times pos s = s
times neg s = flip s

-- two terms with one monomial cancel if their signs differ
abbrev pub meet : Sign → Sign → List ℕ → Sum → Sum
meet pos pos u p = term pos u (term pos u p)
meet neg neg u p = term neg u (term neg u p)
meet pos neg u p = p
meet neg pos u p = p

abbrev pub place : Order → Sign → List ℕ → Sign → List ℕ → Sum → Sum → Sum
place less s u t v p r = term s u (term t v p)
place same s u t v p r = meet s t v p
place more s u t v p r = term t v r

abbrev pub insert : Sign → List ℕ → Sum → Sum
insert s u nil = term s u nil
insert s u (term t v p) = place (orders u v) s u t v p (insert s u p)

abbrev pub plus : Sum → Sum → Sum
plus nil q = q
plus (term s u p) q = insert s u (plus p q)

abbrev pub minus : Sum → Sum
minus nil = nil
minus (term s u p) = term (flip s) u (minus p)

abbrev pub put_var : Order → ℕ → ℕ → List ℕ → List ℕ → List ℕ
put_var less i j u r = i ∷ (j ∷ u)
put_var same i j u r = i ∷ (j ∷ u)
put_var more i j u r = j ∷ r

abbrev pub insert_var : ℕ → List ℕ → List ℕ
insert_var i [] = i ∷ []
insert_var i (j ∷ u) = put_var (order i j) i j u (insert_var i u)

abbrev pub join : List ℕ → List ℕ → List ℕ
join [] v = v
join (i ∷ u) v = insert_var i (join u v)

abbrev pub scale : Sign → List ℕ → Sum → Sum
scale s u nil = nil
scale s u (term t v p) = insert (times s t) (join u v) (scale s u p)

abbrev pub product : Sum → Sum → Sum
product nil q = nil
product (term s u p) q = plus (scale s u q) (product p q)

abbrev pub norm : Expr → Sum
norm (var i) = term pos (i ∷ []) nil
norm :0 = nil
norm :1 = term pos [] nil
norm (a :+ b) = plus (norm a) (norm b)
norm (a :* b) = product (norm a) (norm b)
norm (:- a) = minus (norm a)

-- ## Two monomials of one order are equal

abbrev IsSame : Order → Type 0
IsSame less = ⊥
IsSame same = Unit {0}
IsSame more = ⊥

order_same : (m n : ℕ) → IsSame (order m n) → m ≡ n
order_same zero zero h = refl
order_same zero (suc n) h = absurd h
order_same (suc m) zero h = absurd h
order_same (suc m) (suc n) h = ap suc (order_same m n h)

then_same : (o r : Order) → IsSame (then o r) → IsSame o × IsSame r
then_same less r h = absurd h
then_same same r h = (tt, h)
then_same more r h = absurd h

orders_same : (u v : List ℕ) → IsSame (orders u v) → u ≡ v
orders_same [] [] h = refl
orders_same [] (j ∷ v) h = absurd h
orders_same (i ∷ u) [] h = absurd h
orders_same (i ∷ u) (j ∷ v) h =
    let both = then_same (order i j) (orders u v) h in
    ap₂ {C = List ℕ} (λ k w. k ∷ w) (order_same i j both.0) (orders_same u v both.1)

-- ## What an expression and a sum stand for

module _ {K : Type 0} (F : Ops K) (env : List K) where
  open F use {zero as 𝟘, one as 𝟙, add as ◌⊕◌, mul as ◌⊗◌, neg as ⊖◌}

  infixl 65 ◌⊕◌
  infixl 70 ◌⊗◌
  infix 80 ⊖◌
  abbrev pub value : Expr → K
  value (var i) = get_or env i 𝟘
  value :0 = 𝟘
  value :1 = 𝟙
  value (a :+ b) = value a ⊕ value b
  value (a :* b) = value a ⊗ value b
  value (:- a) = ⊖ value a

  abbrev of_mono : List ℕ → K
  of_mono [] = 𝟙
  of_mono (i ∷ u) = get_or env i 𝟘 ⊗ of_mono u

  abbrev signed : Sign → K → K
  signed pos x = x
  signed neg x = ⊖ x

  abbrev of_sum : Sum → K
  of_sum nil = 𝟘
  of_sum (term s u p) = signed s (of_mono u) ⊕ of_sum p

-- ## The few laws that the soundness proof needs

module _ {K : Type 0} {F : Ops K} (laws : RingLaws F) where
  open F use {zero as 𝟘, one as 𝟙, add as ◌⊕◌, mul as ◌⊗◌, neg as ⊖◌}
  open laws use {add_assoc, add_comm, add-zero, add-neg, mul_assoc, mul_comm, mul-one, distrib}

  infixl 65 ◌⊕◌
  infixl 70 ◌⊗◌
  infix 80 ⊖◌
  zero-add : (x : K) → 𝟘 ⊕ x ≡ x
  zero-add x = add_comm 𝟘 x ∙ add-zero x

  neg_add_self : (x : K) → ⊖ x ⊕ x ≡ 𝟘
  neg_add_self x = add_comm (⊖ x) x ∙ add-neg x

  add_left_comm : (x y z : K) → x ⊕ (y ⊕ z) ≡ y ⊕ (x ⊕ z)
  add_left_comm x y z = sym (add_assoc x y z) ∙ ap (λ u. u ⊕ z) (add_comm x y) ∙ add_assoc y x z

  mul_left_comm : (x y z : K) → x ⊗ (y ⊗ z) ≡ y ⊗ (x ⊗ z)
  mul_left_comm x y z = sym (mul_assoc x y z) ∙ ap (λ u. u ⊗ z) (mul_comm x y) ∙ mul_assoc y x z

  cancel : (x y : K) → x ⊕ (⊖ x ⊕ y) ≡ y
  cancel x y = sym (add_assoc x (⊖ x) y) ∙ ap (λ u. u ⊕ y) (add-neg x) ∙ zero-add y

  cancel_neg : (x y : K) → ⊖ x ⊕ (x ⊕ y) ≡ y
  cancel_neg x y = sym (add_assoc (⊖ x) x y) ∙ ap (λ u. u ⊕ y) (neg_add_self x) ∙ zero-add y

  pub add_cancel : (x y z : K) → x ⊕ y ≡ x ⊕ z → y ≡ z
  add_cancel x y z h = sym (cancel_neg x y) ∙ ap (λ u. ⊖ x ⊕ u) h ∙ cancel_neg x z

  distrib_right : (x y z : K) → (x ⊕ y) ⊗ z ≡ x ⊗ z ⊕ y ⊗ z
  distrib_right x y z = mul_comm (x ⊕ y) z ∙ distrib z x y ∙ ap₂ (λ u v. u ⊕ v) (mul_comm z x) (mul_comm z y)

  mul-zero : (x : K) → x ⊗ 𝟘 ≡ 𝟘
  mul-zero x =
      add_cancel (x ⊗ 𝟘) (x ⊗ 𝟘) 𝟘
      (sym (distrib x 𝟘 𝟘) ∙ ap (λ u. x ⊗ u) (add-zero 𝟘) ∙ sym (add-zero (x ⊗ 𝟘)))

  zero-mul : (x : K) → 𝟘 ⊗ x ≡ 𝟘
  zero-mul x = mul_comm 𝟘 x ∙ mul-zero x

  neg_unique : (x y : K) → x ⊕ y ≡ 𝟘 → y ≡ ⊖ x
  neg_unique x y h = add_cancel x y (⊖ x) (h ∙ sym (add-neg x))

  neg-neg : (x : K) → ⊖ (⊖ x) ≡ x
  neg-neg x = sym (neg_unique (⊖ x) x (neg_add_self x))

  neg-zero : ⊖ 𝟘 ≡ 𝟘
  neg-zero = sym (neg_unique 𝟘 𝟘 (add-zero 𝟘))

  neg-add : (x y : K) → ⊖ (x ⊕ y) ≡ ⊖ x ⊕ ⊖ y
  neg-add x y =
      sym (neg_unique (x ⊕ y) (⊖ x ⊕ ⊖ y)
      (add_assoc x y (⊖ x ⊕ ⊖ y) ∙ ap (λ u. x ⊕ u) (add_left_comm y (⊖ x) (⊖ y)) ∙ cancel x (y ⊕ ⊖ y) ∙ add-neg y))

  mul-neg : (x y : K) → x ⊗ (⊖ y) ≡ ⊖ (x ⊗ y)
  mul-neg x y =
      neg_unique (x ⊗ y) (x ⊗ (⊖ y)) (sym (distrib x y (⊖ y)) ∙ ap (λ u. x ⊗ u) (add-neg y) ∙ mul-zero x)

  neg-mul : (x y : K) → (⊖ x) ⊗ y ≡ ⊖ (x ⊗ y)
  neg-mul x y = mul_comm (⊖ x) y ∙ mul-neg y x ∙ ap (λ u. ⊖ u) (mul_comm y x)

-- ## Soundness

module _ {K : Type 0} {F : Ops K} (laws : RingLaws F) (env : List K) where
  open F use {zero as 𝟘, one as 𝟙, add as ◌⊕◌, mul as ◌⊗◌, neg as ⊖◌}
  open laws use {add_assoc, add_comm, add-zero, add-neg, mul_assoc, mul_comm, mul-one, distrib}

  infixl 65 ◌⊕◌
  infixl 70 ◌⊗◌
  infix 80 ⊖◌
  abbrev atom : ℕ → K
  atom i = get_or env i 𝟘

  abbrev mono : List ℕ → K
  mono = of_mono F env

  abbrev sum : Sum → K
  sum = of_sum F env

  abbrev sg : Sign → K → K
  sg = signed F env

  meet_sound : (s t : Sign) (u : List ℕ) (p : Sum) → sum (meet s t u p) ≡ sg s (mono u) ⊕ (sg t (mono u) ⊕ sum p)
  meet_sound pos pos u p = refl
  meet_sound neg neg u p = refl
  meet_sound pos neg u p = sym (cancel laws (mono u) (sum p))
  meet_sound neg pos u p = sym (cancel_neg laws (mono u) (sum p))

  place_sound : (o : Order) (s : Sign) (u : List ℕ) (t : Sign) (v : List ℕ) (p r : Sum) → (IsSame o → u ≡ v)
      → sum r ≡ sg s (mono u) ⊕ sum p
      → sum (place o s u t v p r) ≡ sg s (mono u) ⊕ (sg t (mono v) ⊕ sum p)
  place_sound less s u t v p r h e = refl
  place_sound same s u t v p r h e = meet_sound s t v p ∙ ap (λ w. sg s (mono w) ⊕ (sg t (mono v) ⊕ sum p)) (sym (h tt))
  place_sound more s u t v p r h e =
      ap (λ w. sg t (mono v) ⊕ w) e ∙ add_left_comm laws (sg t (mono v)) (sg s (mono u)) (sum p)

  insert_sound : (s : Sign) (u : List ℕ) (p : Sum) → sum (insert s u p) ≡ sg s (mono u) ⊕ sum p
  insert_sound s u nil = refl
  insert_sound s u (term t v p) =
      place_sound (orders u v) s u t v p (insert s u p) (orders_same u v) (insert_sound s u p)

  plus_sound : (p q : Sum) → sum (plus p q) ≡ sum p ⊕ sum q
  plus_sound nil q = sym (zero-add laws (sum q))
  plus_sound (term s u p) q =
      insert_sound s u (plus p q) ∙ ap (λ w. sg s (mono u) ⊕ w) (plus_sound p q) ∙ sym (add_assoc (sg s (mono u)) (sum p) (sum q))

  flip_sound : (s : Sign) (x : K) → sg (flip s) x ≡ ⊖ (sg s x)
  flip_sound pos x = refl
  flip_sound neg x = sym (neg-neg laws x)

  minus_sound : (p : Sum) → sum (minus p) ≡ ⊖ (sum p)
  minus_sound nil = sym (neg-zero laws)
  minus_sound (term s u p) =
      ap₂ (λ x y. x ⊕ y) (flip_sound s (mono u)) (minus_sound p) ∙ sym (neg-add laws (sg s (mono u)) (sum p))

  put_var_sound : (o : Order) (i j : ℕ) (u r : List ℕ) → mono r ≡ atom i ⊗ mono u
      → mono (put_var o i j u r) ≡ atom i ⊗ (atom j ⊗ mono u)
  put_var_sound less i j u r e = refl
  put_var_sound same i j u r e = refl
  put_var_sound more i j u r e = ap (λ w. atom j ⊗ w) e ∙ mul_left_comm laws (atom j) (atom i) (mono u)

  insert_var_sound : (i : ℕ) (u : List ℕ) → mono (insert_var i u) ≡ atom i ⊗ mono u
  insert_var_sound i [] = refl
  insert_var_sound i (j ∷ u) = put_var_sound (order i j) i j u (insert_var i u) (insert_var_sound i u)

  join_sound : (u v : List ℕ) → mono (join u v) ≡ mono u ⊗ mono v
  join_sound [] v = sym (mul_comm 𝟙 (mono v) ∙ mul-one (mono v))
  join_sound (i ∷ u) v =
      insert_var_sound i (join u v) ∙ ap (λ w. atom i ⊗ w) (join_sound u v) ∙ sym (mul_assoc (atom i) (mono u) (mono v))

  times_sound : (s t : Sign) (x y : K) → sg (times s t) (x ⊗ y) ≡ sg s x ⊗ sg t y
  times_sound pos pos x y = refl
  times_sound pos neg x y = sym (mul-neg laws x y)
  times_sound neg pos x y = sym (neg-mul laws x y)
  times_sound neg neg x y = sym (neg-mul laws x (⊖ y) ∙ ap (λ w. ⊖ w) (mul-neg laws x y) ∙ neg-neg laws (x ⊗ y))

  scale_sound : (s : Sign) (u : List ℕ) (p : Sum) → sum (scale s u p) ≡ sg s (mono u) ⊗ sum p
  scale_sound s u nil = sym (mul-zero laws (sg s (mono u)))
  scale_sound s u (term t v p) =
      insert_sound (times s t) (join u v) (scale s u p)
      ∙ ap₂ (λ x y. x ⊕ y) (ap (sg (times s t)) (join_sound u v) ∙ times_sound s t (mono u) (mono v)) (scale_sound s u p)
      ∙ sym (distrib (sg s (mono u)) (sg t (mono v)) (sum p))

  product_sound : (p q : Sum) → sum (product p q) ≡ sum p ⊗ sum q
  product_sound nil q = sym (zero-mul laws (sum q))
  product_sound (term s u p) q =
      plus_sound (scale s u q) (product p q)
      ∙ ap₂ (λ x y. x ⊕ y) (scale_sound s u q) (product_sound p q)
      ∙ sym (distrib_right laws (sg s (mono u)) (sum p) (sum q))

  norm_sound : (e : Expr) → sum (norm e) ≡ value F env e
  norm_sound (var i) = add-zero (atom i ⊗ 𝟙) ∙ mul-one (atom i)
  norm_sound :0 = refl
  norm_sound :1 = add-zero 𝟙
  norm_sound (a :+ b) = plus_sound (norm a) (norm b) ∙ ap₂ (λ x y. x ⊕ y) (norm_sound a) (norm_sound b)
  norm_sound (a :* b) = product_sound (norm a) (norm b) ∙ ap₂ (λ x y. x ⊗ y) (norm_sound a) (norm_sound b)
  norm_sound (:- a) = minus_sound (norm a) ∙ ap (λ x. ⊖ x) (norm_sound a)

  -- the equation between two expressions with one normal form
  pub ring_expr : (a b : Expr) → norm a ≡ norm b → value F env a ≡ value F env b
  ring_expr a b e = sym (norm_sound a) ∙ ap sum e ∙ norm_sound b

-- ## Reading an expression off a goal
--
-- `Form F env x` says how `x` is written over the atoms `env`. `search forms` finds one.
pub data Form {K : Type 0} (F : Ops K) (env : List K) : K → Type 0 where
  f_var : (i : ℕ) → Form F env (get_or env i F.zero)
  f_zero : Form F env F.zero
  f_one : Form F env F.one
  f_add : {x y : K} → Form F env x → Form F env y → Form F env (F.add x y)
  f_mul : {x y : K} → Form F env x → Form F env y → Form F env (F.mul x y)
  f_neg : {x : K} → Form F env x → Form F env (F.neg x)

abbrev pub expr : {K : Type 0} {F : Ops K} {env : List K} {x : K} → Form F env x → Expr
expr (f_var i) = var i
expr f_zero = :0
expr f_one = :1
expr (f_add p q) = expr p :+ expr q
expr (f_mul p q) = expr p :* expr q
expr (f_neg p) = :- expr p

expr_value : {K : Type 0} {F : Ops K} {env : List K} {x : K} (p : Form F env x) → value F env (expr p) ≡ x
expr_value (f_var i) = refl
expr_value f_zero = refl
expr_value f_one = refl
expr_value {F = F} (f_add p q) = ap₂ F.add (expr_value p) (expr_value q)
expr_value {F = F} (f_mul p q) = ap₂ F.mul (expr_value p) (expr_value q)
expr_value {F = F} (f_neg p) = ap F.neg (expr_value p)

module _ {K : Type 0} {F : Ops K} where
  abbrev pub atom_0 : {a : K} {env : List K} → Form F (a ∷ env) a
  atom_0 = f_var 0

  abbrev pub atom_1 : {a b : K} {env : List K} → Form F (a ∷ (b ∷ env)) b
  atom_1 = f_var 1

  abbrev pub atom_2 : {a b c : K} {env : List K} → Form F (a ∷ (b ∷ (c ∷ env))) c
  atom_2 = f_var 2

  abbrev pub atom_3 : {a b c d : K} {env : List K} → Form F (a ∷ (b ∷ (c ∷ (d ∷ env)))) d
  atom_3 = f_var 3

  abbrev pub atom_4 : {a b c d e : K} {env : List K} → Form F (a ∷ (b ∷ (c ∷ (d ∷ (e ∷ env))))) e
  atom_4 = f_var 4

  abbrev pub atom_5 : {a b c d e f : K} {env : List K} → Form F (a ∷ (b ∷ (c ∷ (d ∷ (e ∷ (f ∷ env)))))) f
  atom_5 = f_var 5

  abbrev pub atom_6 : {a b c d e f g : K} {env : List K} → Form F (a ∷ (b ∷ (c ∷ (d ∷ (e ∷ (f ∷ (g ∷ env))))))) g
  atom_6 = f_var 6

  abbrev pub atom_7 : {a b c d e f g h : K} {env : List K} → Form F (a ∷ (b ∷ (c ∷ (d ∷ (e ∷ (f ∷ (g ∷ (h ∷ env)))))))) h
  atom_7 = f_var 7

-- the atoms stand first, so that what is listed as an atom is not taken apart
pub ruleset forms = (atom_0, atom_1, atom_2, atom_3, atom_4, atom_5, atom_6, atom_7, f_zero, f_one, f_add, f_mul, f_neg)

module _ {K : Type 0} {F : Ops K} (laws : RingLaws F) where
  -- `ring laws (x ∷ y ∷ []) (search forms) (search forms) refl` proves an equation over the atoms x and y
  pub ring : (env : List K) {x y : K} (p : Form F env x) (q : Form F env y) → norm (expr p) ≡ norm (expr q) → x ≡ y
  ring env p q e = sym (expr_value p) ∙ ring_expr laws env (expr p) (expr q) e ∙ expr_value q

  -- ## An equation from others: `l - r` is a combination of their differences, and `ring` shows that

  same_if_no_difference : (x y : K) → sub F x y ≡ F.zero → x ≡ y
  same_if_no_difference x y e =
      ring (x ∷ y ∷ []) (search forms) (search forms) refl
      ∙ ap (λ u. F.add u y) e
      ∙ ring (y ∷ []) (search forms) (search forms) refl

  pub from_one : (k : K) {u v l r : K} → u ≡ v → sub F l r ≡ F.mul k (sub F u v) → l ≡ r
  from_one k {u} {v} {l} {r} e h =
      same_if_no_difference l r
      (h ∙ ap (λ w. F.mul k (sub F w v)) e ∙ ring (k ∷ v ∷ []) (search forms) (search forms) refl)

  pub from_two : (k m : K) {u v w x l r : K} → u ≡ v → w ≡ x
      → sub F l r ≡ F.add (F.mul k (sub F u v)) (F.mul m (sub F w x)) → l ≡ r
  from_two k m {u} {v} {w} {x} {l} {r} e f h =
      same_if_no_difference l r
      (h
      ∙ ap₂ (λ y z. F.add (F.mul k (sub F y v)) (F.mul m (sub F z x))) e f
      ∙ ring (k ∷ m ∷ v ∷ x ∷ []) (search forms) (search forms) refl)
