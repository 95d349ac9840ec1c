-- The laws of sets of ids. Assumes nothing.
use Rattle.std.proofs.Common.{◌≡◌, ℕ, zero, suc, ◌+◌, ◌-◌, ◌/◌, ◌%◌, ◌^◌, ◌<◌, ◌≤◌, Bool, true, false, cond, not, ◌&&◌, ◌||◌, eqb, ltb, ◌≢◌, List, [], ◌∷◌, ◌++◌, length, Some, Decides, filter, Option, sym, refl, ap, ◌∙◌, ap₂, inl, inr, pow-suc, arith}
use lib.Count.{ones, ones_step, ones-le}
use Rattle.std.specs.List.{slice_get, range_with_len, list_all}
use Rattle.std.specs.Iterator.{Yields}
use Rattle.std.proofs.lemmas.Nat.{pow_pos, mod_below, shr-shr, shr_le}
use Rattle.std.proofs.lemmas.List.Filters.{length-filter_both}
use Rattle.std.proofs.lemmas.Bool.{cases_lt, cases_Bool, both_ways, cond-true, cond-false, cond_both, and_left, and_right, and_parts, or_left, not-true, eq-eqb, eqb-true}
use Rattle.std.proofs.lemmas.Bool.Decides.{nat_tests, eqb_tells, Decides-like}
use Rattle.std.proofs.ByRecursion.{Decides-by_and}
use Rattle.circle.specs.Ids.{is_id, ids, member, inserted, removed, members, size, rank, within_largest, subset, Stepped, Ascends}
use Rattle.circle.specs.Lists.{In, Distinct}
use Rattle.circle.proofs.ids.Bits.{bit, bit_shift, bit_shr, bit_cases, bit_past, bit_mod, bits_≡, shr_none, bit_add_same, bit_add_other, ones_add, add_lt, apart}
use Rattle.circle.proofs.Lists.{all_of, all-at}
use Rattle.circle.proofs.Tests.{pass_all}
use Rattle.circle.proofs.ids.Lists.{ascends_distinct, nth_after, nth_below, counting_split, in_counting, counting_in, counting_ascends, in_kept, kept_in, kept_same, ascends_kept, kept_first}

-- ## A member is a digit

pub member_bit : (set h : ℕ) → member set h ≡ (ltb 0 h && eqb (bit (h - 1) set) 1)
member_bit set h = ap (λ b. ltb 0 h && eqb b 1) (bit_shift (h - 1) set)

pub member_on : (set h : ℕ) → 0 < h → bit (h - 1) set ≡ 1 → member set h ≡ true
member_on set h p e = member_bit set h ∙ grind (arith, nat_tests)

pub member_off : (set h : ℕ) → bit (h - 1) set ≡ 0 → member set h ≡ false
member_off set h e = member_bit set h ∙ grind (arith, nat_tests)

pub on_member : (set h : ℕ) → member set h ≡ true → (0 < h) × (bit (h - 1) set ≡ 1)
on_member set h m =
    let t : (ltb 0 h && eqb (bit (h - 1) set) 1) ≡ true = sym (member_bit set h) ∙ m in
    (grind (arith, nat_tests), grind (arith, nat_tests))

pub off_member : (set h : ℕ) → 0 < h → member set h ≡ false → bit (h - 1) set ≡ 0
off_member set h p m =
    let t : (ltb 0 h && eqb (bit (h - 1) set) 1) ≡ false = sym (member_bit set h) ∙ m in
    elim (bit_cases (h - 1) set) [ inl e ↦ e | inr e ↦ grind (arith, nat_tests) ]

pub digit_member : (set h : ℕ) → 0 < h → bit (h - 1) set ≡ cond (member set h) 1 0
digit_member set h p =
    elim (cases_Bool (member set h)) [
      | inl m ↦ (on_member set h m).1 ∙ sym (cond-true _ _ _ m)
      | inr m ↦ off_member set h p m ∙ sym (cond-false _ _ _ m)
    ]

-- ## Ids

pub member_zero : (set : ℕ) → member set 0 ≡ false
member_zero set = refl

pub id_bounds : (h : ℕ) → is_id h ≡ true → (0 < h) × (h ≤ 32)
id_bounds h e = (grind (arith, nat_tests), grind (arith, nat_tests))

pub bounds_id : (h : ℕ) → 0 < h → h ≤ 32 → is_id h ≡ true
bounds_id h l u = grind (arith, nat_tests)

-- a member of a set is an id
pub member_id : (set h : ℕ) → set < 2 ^ 32 → member set h ≡ true → is_id h ≡ true
member_id set h fits m =
    let on = on_member set h m in
    elim (cases_lt 32 h) [
      | inl past ↦ let off = bit_past 32 (h - 1) set fits (omega arith) in absurd (omega (arith, on.1, off))
      | inr within ↦ bounds_id h on.0 within
    ]

pub member_none : (set h : ℕ) → set < 2 ^ 32 → is_id h ≡ false → member set h ≡ false
member_none set h fits none =
    elim (cases_Bool (member set h)) [ inl m ↦ absurd (both_ways (is_id h) none (member_id set h fits m)) | inr m ↦ m ]

pub member_empty : (h : ℕ) → member 0 h ≡ false
member_empty h = member_off 0 h (bit_past 0 (h - 1) 0 (omega arith) (omega arith))

-- ## One id more, one less

pub inserted_new : (set h : ℕ) → is_id h ≡ true → member set h ≡ false → inserted set h ≡ set + 2 ^ (h - 1)
inserted_new set h id m = ap₂ (λ a b. cond (a && not b) (set + 2 ^ (h - 1)) set) id m

pub inserted_old : (set h : ℕ) → member set h ≡ true → inserted set h ≡ set
inserted_old set h m = cond-false _ _ _ (and_right (is_id h) _ (ap not m))

pub inserted_none : (set h : ℕ) → is_id h ≡ false → inserted set h ≡ set
inserted_none set h none = cond-false _ _ _ (and_left _ (not (member set h)) none)

pub removed_old : (set h : ℕ) → member set h ≡ true → removed set h ≡ set - 2 ^ (h - 1)
removed_old set h m = cond-true _ _ _ m

pub removed_none : (set h : ℕ) → member set h ≡ false → removed set h ≡ set
removed_none set h m = cond-false _ _ _ m

-- one digit more: the id itself, and every other as before
member_add_same : (set h : ℕ) → 0 < h → member set h ≡ false → member (set + 2 ^ (h - 1)) h ≡ true
member_add_same set h p m = member_on _ h p (bit_add_same (h - 1) set (off_member set h p m))

member_add_other : (set h k : ℕ) → 0 < h → k ≢ h → member set h ≡ false → member (set + 2 ^ (h - 1)) k ≡ member set k
member_add_other set h zero p ne m = refl
member_add_other set h (suc j) p ne m =
    let apart : suc j - 1 ≢ h - 1 = omega arith in
    member_bit _ (suc j)
    ∙ ap (λ b. ltb 0 (suc j) && eqb b 1) (bit_add_other (h - 1) (suc j - 1) set apart (off_member set h p m))
    ∙ sym (member_bit set (suc j))

pub member_inserted : (set h k : ℕ) → is_id h ≡ true → member (inserted set h) k ≡ (eqb k h || member set k)
member_inserted set h k id =
    let p = (id_bounds h id).0 in
    elim (cases_Bool (member set h)) [
      | inl m ↦
          ap (λ s. member s k) (inserted_old set h m)
          ∙ elim (eqb_tells k h) [
            | inl e ↦ ap (member set) e.1 ∙ m ∙ sym (or_left _ _ e.0)
            | inr e ↦ ap (λ b. b || member set k) (sym e.0)
          ]
      | inr m ↦
          ap (λ s. member s k) (inserted_new set h id m)
          ∙ elim (eqb_tells k h) [
            | inl e ↦ ap (member (set + 2 ^ (h - 1))) e.1 ∙ member_add_same set h p m ∙ sym (or_left _ _ e.0)
            | inr e ↦ member_add_other set h k p e.1 m ∙ ap (λ b. b || member set k) (sym e.0)
          ]
    ]

-- what is removed is a member more than what is left
split : (set h : ℕ) → member set h ≡ true → (set ≡ removed set h + 2 ^ (h - 1)) × (member (removed set h) h ≡ false)
split set h m =
    let two = apart (h - 1) set (on_member set h m).1 in
    let e = removed_old set h m in
    (two.0 ∙ ap (λ s. s + 2 ^ (h - 1)) (sym e), ap (λ s. member s h) e ∙ member_off _ h two.1)

pub member_removed : (set h k : ℕ) → member (removed set h) k ≡ (not (eqb k h) && member set k)
member_removed set h k =
    elim (cases_Bool (member set h)) [
      | inl m ↦
          let two = split set h m in
          elim (eqb_tells k h) [
            | inl e ↦ ap (member (removed set h)) e.1 ∙ two.1 ∙ ap (λ b. not b && member set k) (sym e.0)
            | inr e ↦
                sym (member_add_other (removed set h) h k (on_member set h m).0 e.1 two.1)
                ∙ ap (λ s. member s k) (sym two.0) ∙ ap (λ b. not b && member set k) (sym e.0)
          ]
      | inr m ↦
          ap (λ s. member s k) (removed_none set h m)
          ∙ elim (eqb_tells k h) [
            | inl e ↦ ap (member set) e.1 ∙ m ∙ ap (λ b. not b && member set k) (sym e.0)
            | inr e ↦ ap (λ b. not b && member set k) (sym e.0)
          ]
    ]

pub size_inserted : (set h : ℕ) → is_id h ≡ true → member set h ≡ false → size (inserted set h) ≡ size set + 1
size_inserted set h id m = ap ones (inserted_new set h id m) ∙ ones_add (h - 1) set (off_member set h (id_bounds h id).0 m)

pub size_removed : (set h : ℕ) → member set h ≡ true → size set ≡ size (removed set h) + 1
size_removed set h m =
    let two = split set h m in
    ap ones two.0 ∙ ones_add (h - 1) (removed set h) (off_member (removed set h) h (on_member set h m).0 two.1)

pub inserted_fits : (set h : ℕ) → set < 2 ^ 32 → inserted set h < 2 ^ 32
inserted_fits set h fits =
    cond_both _ _ _ (λ s. s < 2 ^ 32)
    (λ new.
    let parts = and_parts (is_id h) (not (member set h)) new in
    let b = id_bounds h parts.0 in
    add_lt 32 (h - 1) set (omega arith) fits (off_member set h b.0 (not-true _ parts.1)))
    (λ old. fits)

pub removed_fits : (set h : ℕ) → set < 2 ^ 32 → removed set h < 2 ^ 32
removed_fits set h fits = cond_both (member set h) (set - 2 ^ (h - 1)) set (λ s. s < 2 ^ 32) (λ m. omega arith) (λ m. fits)

-- a set is its members
pub set_≡ : (a b : ℕ) → a < 2 ^ 32 → b < 2 ^ 32 → ((h : ℕ) → is_id h ≡ true → member a h ≡ member b h) → a ≡ b
set_≡ a b fa fb same = bits_≡ 32 a b fa fb digit
  where
    digit : (i : ℕ) → i < 32 → bit i a ≡ bit i b
    digit i l =
        let place : i + 1 - 1 ≡ i = omega arith in
        let e = same (i + 1) (bounds_id (i + 1) (omega arith) (omega arith)) in
        ap (λ j. bit j a) (sym place) ∙ digit_member a (i + 1) (omega arith) ∙ ap (λ m. cond m 1 0) e
        ∙ sym (digit_member b (i + 1) (omega arith)) ∙ ap (λ j. bit j b) place

-- ## The list of the ids, and that of the members

pub in_ids : (h : ℕ) → In h ids → is_id h ≡ true
unfolding ids
in_ids h m = let b = in_counting 1 32 h m in bounds_id h (omega arith) (omega arith)

pub ids_in : (h : ℕ) → is_id h ≡ true → In h ids
unfolding ids
ids_in h id = let b = id_bounds h id in counting_in 1 32 h (omega arith) (omega arith)

pub ids_length : length ids ≡ 32
unfolding ids
ids_length = refl

pub ids_ascend : Ascends ids
unfolding ids
ids_ascend = counting_ascends 1 32

pub in_members : (set h : ℕ) → In h (members set) → (is_id h ≡ true) × (member set h ≡ true)
unfolding members
in_members set h m = let r = in_kept (member set) ids h m in (in_ids h r.0, r.1)

pub members_in : (set h : ℕ) → is_id h ≡ true → member set h ≡ true → In h (members set)
unfolding members
members_in set h id m = kept_in (member set) ids h (ids_in h id) m

pub members_ids : (set : ℕ) → list_all is_id (members set) ≡ true
members_ids set = pass_all (λ h. is_id h ≡ true) is_id (λ h id. id) (members set) (all_of _ (members set) (λ h m. (in_members set h m).0))

pub members_ascend : (set : ℕ) → Ascends (members set)
unfolding members
members_ascend set = ascends_kept (member set) ids ids_ascend

pub members_distinct : (set : ℕ) → Distinct (members set)
members_distinct set = ascends_distinct (members set) (members_ascend set)

pub size_empty : size 0 ≡ 0
unfolding ones
size_empty = refl

pub size_few : (set : ℕ) → set < 2 ^ 32 → size set ≤ 32
size_few set fits = ones-le 32 set fits

-- the digits from that of h on
count_from : (n h set : ℕ) → 0 < h → set / 2 ^ (h - 1) < 2 ^ n → length (filter (member set) (range_with_len h n)) ≡ ones (set / 2 ^ (h - 1))
count_from zero h set p few = let none : set / 2 ^ (h - 1) ≡ 0 = omega arith in sym (ap ones none ∙ size_empty)
count_from (suc n) h set p few =
    let half : set / 2 ^ (h - 1) / 2 ≡ set / 2 ^ (h + 1 - 1) = shr-shr set (h - 1) 1 ∙ ap (λ k. set / 2 ^ k) (omega arith) in
    let rest = count_from n (h + 1) set (omega arith) (omega (arith, half, pow-suc 2 n)) ∙ ap ones (sym half) in
    let step = ones_step (set / 2 ^ (h - 1)) in
    let digit = bit_shift (h - 1) set in
    elim (cases_Bool (member set h)) [
      | inl m ↦ ap length (cond-true _ _ _ m) ∙ omega (arith, (on_member set h m).1)
      | inr m ↦ ap length (cond-false _ _ _ m) ∙ omega (arith, off_member set h p m)
    ]

pub members_size : (set : ℕ) → set < 2 ^ 32 → length (members set) ≡ size set
unfolding members ids
members_size set fits = count_from 32 1 set (omega arith) (omega arith) ∙ ap ones (omega arith)

-- those below h are members of what is below the digit of h
pub rank_count : (set n : ℕ) → length (filter (member set) (range_with_len 1 n)) ≡ ones (set % 2 ^ n)
rank_count set n =
    let low = set % 2 ^ n in
    let whole : low / 2 ^ (1 - 1) ≡ low = omega arith in
    ap length (kept_same (member set) (member low) (range_with_len 1 n) (λ k m. sym (same k (in_counting 1 n k m))))
    ∙ count_from n 1 low (omega arith) (omega (arith, whole, mod_below set (2 ^ n) (pow_pos n)))
    ∙ ap ones whole
  where
    same : (k : ℕ) → (1 ≤ k) × (k < 1 + n) → member (set % 2 ^ n) k ≡ member set k
    same k b =
        member_bit (set % 2 ^ n) k ∙ ap (λ d. ltb 0 k && eqb d 1) (bit_mod n (k - 1) set (omega arith)) ∙ sym (member_bit set k)

kept_append : {A : Type 0} (p : A → Bool) (xs ys : List A) → filter p (xs ++ ys) ≡ filter p xs ++ filter p ys
kept_append p [] ys = refl
kept_append p (x ∷ xs) ys = go (p x) (kept_append p xs ys)
  where
    go : (b : Bool) → filter p (xs ++ ys) ≡ filter p xs ++ filter p ys
        → cond b (x ∷ filter p (xs ++ ys)) (filter p (xs ++ ys)) ≡ cond b (x ∷ filter p xs) (filter p xs) ++ filter p ys
    go true e = ap (λ zs. x ∷ zs) e
    go false e = e

-- a member stands behind those that are below it
pub member_rank : (set h : ℕ) → set < 2 ^ 32 → member set h ≡ true → slice_get (members set) (rank set h) ≡ Some h
unfolding members ids
member_rank set h fits m =
    let b = id_bounds h (member_id set h fits m) in
    let n = h - 1 in
    let split : range_with_len 1 32 ≡ range_with_len 1 n ++ (h ∷ range_with_len (h + 1) (32 - h)) = counting_split 1 n 32 h (32 - h) (omega arith) (omega arith) in
    let parts : filter (member set) (range_with_len 1 32) ≡ filter (member set) (range_with_len 1 n) ++ (h ∷ filter (member set) (range_with_len (h + 1) (32 - h))) =
    ap (filter (member set)) split ∙ kept_append (member set) (range_with_len 1 n) (h ∷ range_with_len (h + 1) (32 - h))
    ∙ ap (λ ys. filter (member set) (range_with_len 1 n) ++ ys) (cond-true (member set h) _ _ m) in
    ap₂ slice_get parts (sym (rank_count set n)) ∙ nth_after (filter (member set) (range_with_len 1 n)) _ h

pub rank_below : (set h : ℕ) → set < 2 ^ 32 → member set h ≡ true → rank set h < size set
rank_below set h fits m = omega (arith, nth_below (members set) (rank set h) h (member_rank set h fits m), members_size set fits)

pub members_few : (set : ℕ) → length (members set) ≤ 32
unfolding members
members_few set = omega (arith, ids_length, length-filter_both (member set) (λ h. not (member set h)) (λ _. refl) ids)

-- the lowest member comes first, and then those of the set without it
pub members_first : (set h : ℕ) → is_id h ≡ true → member set h ≡ true → ((k : ℕ) → k < h → member set k ≡ false)
    → members set ≡ h ∷ members (removed set h)
unfolding members
members_first set h id m below =
    kept_first (member set) h ids ids_ascend (ids_in h id) m below
    ∙ ap (λ ys. h ∷ ys) (kept_same _ _ ids (λ k _. sym (member_removed set h k)))

pub members_empty : members 0 ≡ []
unfolding members ids
members_empty = refl

-- ## A walk through the members

-- each state of the walk has a set left
module _ {S : Type 0} (rest : S → ℕ) where
  abbrev pub walk : S → Option ℕ → S → Type 0
  walk s r t = Stepped (rest s) r (rest t)

  -- the ids that came so far, and those still to come, are the members
  pub visited : (set : ℕ) (s t : S) (xs : List ℕ) → rest s ≡ set → Yields walk s xs t → members set ≡ xs ++ members (rest t)
  visited set s t [] e y = ap members (sym e) ∙ ap (λ u. members (rest u)) y
  visited set s t (x ∷ xs) e y = ap members (sym e) ∙ y.1 ∙ ap (λ ys. x ∷ ys) (visited (rest y.0) y.0 t xs refl y.2)

-- ## Subsets, and sets of few ids

pub subset_decides : (a b : ℕ) → Decides (subset a b) ((h : ℕ) → is_id h ≡ true → member a h ≡ true → member b h ≡ true)
subset_decides a b =
    Decides-like (subset a b)
    (λ all h id m. all-at _ (members a) all h (members_in a h id m))
    (λ each. all_of _ (members a) (λ h m. let r = in_members a h m in each h r.0 r.1))
    (Decides-by_and (member b) (λ h. member b h ≡ true) (list_all (member b)) (λ h. (λ e. e, λ e. e)) refl (λ _ _. refl) (members a))

pub subset_member : (a b h : ℕ) → a < 2 ^ 32 → subset a b ≡ true → member a h ≡ true → member b h ≡ true
subset_member a b h fits s m = (subset_decides a b).0 s h (member_id a h fits m) m

pub within_known : (set largest h : ℕ) → within_largest set largest ≡ true → member set h ≡ true → h ≤ largest
within_known set largest h w m =
    let on = on_member set h m in
    elim (cases_lt largest h) [
      | inl past ↦ absurd (omega (arith, on.1, bit_past largest (h - 1) set (shr_none set largest (eqb-true _ 0 w)) (omega arith)))
      | inr within ↦ within
    ]

pub known_within : (set largest : ℕ) → set < 2 ^ 32 → ((h : ℕ) → is_id h ≡ true → member set h ≡ true → h ≤ largest) → within_largest set largest ≡ true
known_within set largest fits each = eq-eqb _ 0 (bits_≡ 32 _ 0 (omega (arith, shr_le set largest)) (omega arith) digit)
  where
    digit : (i : ℕ) → i < 32 → bit i (set / 2 ^ largest) ≡ bit i 0
    digit i l =
        let h = largest + i + 1 in
        let place : largest + i ≡ h - 1 = omega arith in
        bit_shr largest i set
        ∙ elim (bit_cases (largest + i) set) [
          | inl off ↦ off ∙ sym (bit_past 0 i 0 (omega arith) (omega arith))
          | inr on ↦
              let m = member_on set h (omega arith) (ap (λ j. bit j set) (sym place) ∙ on) in
              absurd (omega (arith, each h (member_id set h fits m) m))
        ]

-- every set is one of ids up to 32
pub within_all : (set largest : ℕ) → set < 2 ^ 32 → 32 ≤ largest → within_largest set largest ≡ true
within_all set largest fits l = known_within set largest fits (λ h id _. omega (arith, (id_bounds h id).1))
