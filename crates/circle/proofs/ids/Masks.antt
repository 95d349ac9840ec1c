-- Sets as code tests and changes them: by the mask of one id, or of many, and by the lowest digit that is set. Assumes nothing.
use Rattle.std.proofs.Common.{◌≡◌, ℕ, zero, suc, ◌+◌, ◌-◌, ◌*◌, ◌^◌, ◌<◌, min, Bool, true, false, not, ◌&&◌, eqb, ltb, ◌⊎◌, ◌∷◌, sym, ap, ◌∙◌, ap₂, inl, inr, one-mul, zero-mul, arith}
use lib.Bits.{bit_and, bit_or, and_le_l, or_add_and}
use lib.Count.{count_trailing_zeros}
use Rattle.std.proofs.lemmas.Nat.{pow_pos, pow_below}
use Rattle.std.proofs.lemmas.Bool.{cases_Bool, and_left, and_from, and_parts, eq-eqb, ne_eqb, eqb-true}
use Rattle.std.proofs.lemmas.Bool.Decides.{nat_tests, same_from_decides}
use Rattle.circle.specs.Ids.{is_id, member, inserted, removed, members, subset}
use Rattle.circle.proofs.ids.Bits.{bit, bit_cases, bit_of_and, and_bit, and-not, trailing_set, trailing_clear}
use Rattle.circle.proofs.ids.Laws.{member_bit, member_on, member_off, member_zero, id_bounds, bounds_id, inserted_new, inserted_old, removed_old, removed_none, set_≡, members_first, subset_decides}

-- ## One id

masked : (set h : ℕ) → 0 < h
    → ((member set h ≡ true) × (bit_and set (2 ^ (h - 1)) ≡ 2 ^ (h - 1))) ⊎ ((member set h ≡ false) × (bit_and set (2 ^ (h - 1)) ≡ 0))
masked set h p =
    let e = and_bit (h - 1) set in
    elim (bit_cases (h - 1) set) [
      | inl off ↦ inr (member_off set h off, e ∙ ap (λ d. d * 2 ^ (h - 1)) off ∙ zero-mul (2 ^ (h - 1)))
      | inr on ↦ inl (member_on set h p on, e ∙ ap (λ d. d * 2 ^ (h - 1)) on ∙ one-mul (2 ^ (h - 1)))
    ]

pub member_mask : (set h : ℕ) → 0 < h → not (eqb (bit_and set (2 ^ (h - 1))) 0) ≡ member set h
member_mask set h p =
    elim (masked set h p) [
      | inl on ↦ ap not (ne_eqb _ 0 (λ z. omega (arith, z, on.1, pow_pos (h - 1)))) ∙ sym on.0
      | inr off ↦ ap not (eq-eqb _ 0 off.1) ∙ sym off.0
    ]

pub inserted_mask : (set h : ℕ) → is_id h ≡ true → bit_or set (2 ^ (h - 1)) ≡ inserted set h
inserted_mask set h id =
    let sum = or_add_and set (2 ^ (h - 1)) in
    elim (masked set h (id_bounds h id).0) [
      | inl on ↦ omega (arith, on.1, inserted_old set h on.0)
      | inr off ↦ omega (arith, off.1, inserted_new set h id off.0)
    ]

pub removed_mask : (set h : ℕ) → set < 2 ^ 32 → is_id h ≡ true → bit_and set (2 ^ 32 - 1 - 2 ^ (h - 1)) ≡ removed set h
removed_mask set h fits id =
    let b = id_bounds h id in
    let sum = and-not 32 set (2 ^ (h - 1)) fits (pow_below (h - 1) 32 (omega arith)) in
    elim (masked set h b.0) [
      | inl on ↦ omega (arith, on.1, removed_old set h on.0)
      | inr off ↦ omega (arith, off.1, removed_none set h off.0)
    ]

-- ## Many ids

pub member_and : (a b h : ℕ) → member (bit_and a b) h ≡ (member a h && member b h)
member_and a b h =
    member_bit (bit_and a b) h ∙ ap (λ d. ltb 0 h && eqb d 1) (bit_of_and (h - 1) a b)
    ∙ both (ltb 0 h) (bit (h - 1) a) (bit (h - 1) b) (bit_cases (h - 1) a) (bit_cases (h - 1) b)
    ∙ sym (ap₂ (λ x y. x && y) (member_bit a h) (member_bit b h))
  where
    both : (t : Bool) (x y : ℕ) → (x ≡ 0) ⊎ (x ≡ 1) → (y ≡ 0) ⊎ (y ≡ 1) → (t && eqb (min x y) 1) ≡ ((t && eqb x 1) && (t && eqb y 1))
    both t x y p q = grind (arith, nat_tests)

pub subset_mask : (a b : ℕ) → a < 2 ^ 32 → b < 2 ^ 32 → eqb (bit_and a (2 ^ 32 - 1 - b)) 0 ≡ subset a b
subset_mask a b fa fb = same_from_decides _ (subset a b) (forth, back) (subset_decides a b)
  where
    sum : bit_and a b + bit_and a (2 ^ 32 - 1 - b) ≡ a
    sum = and-not 32 a b fa fb

    forth : eqb (bit_and a (2 ^ 32 - 1 - b)) 0 ≡ true → (h : ℕ) → is_id h ≡ true → member a h ≡ true → member b h ≡ true
    forth e h id m =
        let all : bit_and a b ≡ a = omega (arith, sum, eqb-true _ 0 e) in
        (and_parts (member a h) (member b h) (sym (member_and a b h) ∙ ap (λ s. member s h) all ∙ m)).1

    back : ((h : ℕ) → is_id h ≡ true → member a h ≡ true → member b h ≡ true) → eqb (bit_and a (2 ^ 32 - 1 - b)) 0 ≡ true
    back each =
        let all : bit_and a b ≡ a = set_≡ (bit_and a b) a (omega (arith, and_le_l a b)) fa (λ h id. member_and a b h ∙ kept h id) in
        eq-eqb _ 0 (omega (arith, sum))
      where
        kept : (h : ℕ) → is_id h ≡ true → (member a h && member b h) ≡ member a h
        kept h id =
            elim (cases_Bool (member a h)) [
              | inl m ↦ and_from _ _ m (each h id m) ∙ sym m
              | inr m ↦ and_left _ (member b h) m ∙ sym m
            ]

-- ## The lowest id

pub members_lowest : (set : ℕ) → set < 2 ^ 32 → 0 < set
    → members set ≡ (count_trailing_zeros 32 set + 1) ∷ members (removed set (count_trailing_zeros 32 set + 1))
members_lowest set fits p =
    let t = count_trailing_zeros 32 set in
    let on = trailing_set 32 set fits p in
    let place : t + 1 - 1 ≡ t = omega arith in
    let m = member_on set (t + 1) (omega arith) (ap (λ i. bit i set) place ∙ on.1) in
    members_first set (t + 1) (bounds_id (t + 1) (omega arith) (omega arith)) m lower
  where
    lower : (k : ℕ) → k < count_trailing_zeros 32 set + 1 → member set k ≡ false
    lower zero l = member_zero set
    lower (suc i) l = member_off set (suc i) (trailing_clear 32 (suc i - 1) set (omega arith))
