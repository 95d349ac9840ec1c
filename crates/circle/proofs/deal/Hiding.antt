-- Fewer holders than the threshold learn nothing of the key. Assumes nothing.
use Rattle.std.proofs.Common.{◌≡◌, ℕ, suc, ◌-◌, ◌*◌, ◌^◌, ◌<◌, ◌≤◌, Bool, true, false, cond, leb, ◌≢◌, List, [], ◌∷◌, map, length, get_or, Ok, filter, sym, refl, ap, ◌∙◌, subst, ap₂, arith}
use Rattle.std.specs.List.{list_all, AllByRecursion}
use Rattle.std.proofs.ByRecursion.{kept_by_passes}
use Rattle.std.proofs.lemmas.List.{length-map}
use Rattle.std.proofs.lemmas.Bool.{and_from, le-leb}
use Rattle.fields.specs.Field.{Ops, FieldLaws, Points, sub}
use Rattle.fields.proofs.Ring.{ring, forms, from_one}
use Rattle.circle.specs.Deal.{dealt, deal_answer, deal_table}
use Rattle.circle.specs.DealLaws.{plus, Hides}
use Rattle.circle.specs.Ids.{member, members, size, within_largest, has_point}
use Rattle.circle.specs.Lists.{Distinct}
use Rattle.circle.specs.Polynomial.{eval, polynomial}
use Rattle.circle.specs.Table.{entry, piece}
use Rattle.circle.proofs.Lists.{all_of, all-at, mem-map, all_map}
use Rattle.circle.proofs.Tests.{pass_all}
use Rattle.circle.proofs.deal.Answered.{deal_met}
use Rattle.circle.proofs.ids.Laws.{member_id, id_bounds, within_known, members_in, members_ascend, members_size}
use Rattle.circle.proofs.ids.Lists.{ascends_kept, ascends_distinct, kept_in}
use Rattle.circle.proofs.polynomial.Hiding.{hiding}
use Rattle.circle.proofs.polynomial.Loops.{point_known, points_differ}
use Rattle.circle.proofs.table.Grids.{grid_at}
use Rattle.circle.proofs.table.Pieces.{join, piece_join, length_piece, length_plus, piece_plus}

length_kept : {A : Type 0} (p : A → Bool) (xs : List A) → length (filter p xs) ≤ length xs
length_kept p [] = omega arith
length_kept p (x ∷ xs) = go (p x) (length_kept p xs)
  where
    go : (b : Bool) → length (filter p xs) ≤ length xs → length (cond b (x ∷ filter p xs) (filter p xs)) ≤ suc (length xs)
    go true h = omega arith
    go false h = omega arith

module _ {K : Type 0} {F : Ops K} (laws : FieldLaws F) where
  open F use {zero as 𝟘, one as 𝟙, add as ◌⊕◌, mul as ◌⊗◌, neg as ⊖◌}

  infixl 65 ◌⊕◌
  infixl 70 ◌⊗◌
  infix 80 ⊖◌
  -- ## One place

  -- n numbers that, after the constant term d, are zero at fewer than n + 1 points
  mask : (known : List K) (t : ℕ) (d : K) → Distinct known → AllByRecursion (λ a. a ≢ 𝟘) known → length known < t
      → (g : List K) × (length g ≡ t - 1) × AllByRecursion (λ a. d ⊕ a ⊗ eval F g a ≡ 𝟘) known
  mask known t d apart nonzero few = go h.0 h.1 h.2 h.3
    where
      h : (f : List K) × (length f ≡ t) × (eval F f 𝟘 ≡ d) × AllByRecursion (λ a. eval F f a ≡ 𝟘) known
      h = hiding laws known t d apart nonzero few

      go : (f : List K) → length f ≡ t → eval F f 𝟘 ≡ d → AllByRecursion (λ a. eval F f a ≡ 𝟘) known
          → (g : List K) × (length g ≡ t - 1) × AllByRecursion (λ a. d ⊕ a ⊗ eval F g a ≡ 𝟘) known
      go [] long at_zero hidden = absurd (omega arith)
      go (c ∷ g) long at_zero hidden =
          let first : c ≡ d = ring laws.ring (c ∷ eval F g 𝟘 ∷ []) (search forms depth 9) (search forms depth 9) refl ∙ at_zero in
          (g, omega arith, subst (λ u. AllByRecursion (λ a. u ⊕ a ⊗ eval F g a ≡ 𝟘) known) first hidden)

  eval_plus : (f g : List K) (x : K) → length f ≡ length g → eval F (plus F f g) x ≡ eval F f x ⊕ eval F g x
  eval_plus [] [] x e = ring laws.ring [] (search forms depth 9) (search forms depth 9) refl
  eval_plus [] (d ∷ g) x e = absurd (omega arith)
  eval_plus (c ∷ f) [] x e = absurd (omega arith)
  eval_plus (c ∷ f) (d ∷ g) x e =
      ap (λ u. (c ⊕ d) ⊕ x ⊗ u) (eval_plus f g x (omega arith))
      ∙ ring laws.ring (c ∷ d ∷ x ∷ eval F f x ∷ eval F g x ∷ []) (search forms depth 9) (search forms depth 9) refl

  -- the second key with the numbers shifted has, at a point that the mask hides, the first key's value
  same_value : (k k' a : K) (f g : List K) → length f ≡ length g → sub F k' k ⊕ a ⊗ eval F g a ≡ 𝟘
      → eval F (polynomial F k' (plus F f g)) a ≡ eval F (polynomial F k f) a
  same_value k k' a f g long hidden =
      ap (λ u. k' ⊕ a ⊗ u) (eval_plus f g a long)
      ∙ shifted (eval F f a) (eval F g a) hidden
    where
      shifted : (u v : K) → sub F k' k ⊕ a ⊗ v ≡ 𝟘 → k' ⊕ a ⊗ (u ⊕ v) ≡ k ⊕ a ⊗ u
      shifted u v h =
          from_one laws.ring 𝟙 h (ring laws.ring (k ∷ k' ∷ a ∷ u ∷ v ∷ []) (search forms depth 9) (search forms depth 9) refl)

  -- ## AllByRecursion places

  module _ (m : Points F) (chosen t : ℕ) (fits : chosen < 2 ^ 32) (few : size chosen < t) where
    -- the chosen ids that have a point, and their points
    abbrev ids : List ℕ
    ids = filter (has_point m.largest) (members chosen)

    abbrev known : List K
    known = map m.at ids

    ids_pass : list_all (has_point m.largest) ids ≡ true
    ids_pass = pass_all (λ h. has_point m.largest h ≡ true) (has_point m.largest) (λ h e. e) ids (kept_by_passes (has_point m.largest) (members chosen))

    apart : Distinct known
    apart = points_differ m ids ids_pass (ascends_distinct ids (ascends_kept (has_point m.largest) (members chosen) (members_ascend chosen)))

    nonzero : AllByRecursion (λ a. a ≢ 𝟘) known
    nonzero =
        all_map m.at (λ a. a ≢ 𝟘) ids
        (all_of (λ h. m.at h ≢ 𝟘) ids
        (λ h i. let k = point_known m h (all-at (λ h. has_point m.largest h ≡ true) ids (kept_by_passes (has_point m.largest) (members chosen)) h i) in m.not-zero h k.0 k.1))

    short : length known < t
    short = omega (arith, length-map ids m.at, length_kept (has_point m.largest) (members chosen), members_size chosen fits)

    -- the mask at the place p, for two keys
    masked : (key key' : List K) (p : ℕ) → (g : List K) × (length g ≡ t - 1) × AllByRecursion (λ a. sub F (get_or key' p 𝟘) (get_or key p 𝟘) ⊕ a ⊗ eval F g a ≡ 𝟘) known
    masked key key' p = mask known t (sub F (get_or key' p 𝟘) (get_or key p 𝟘)) apart nonzero short

    abbrev shift : ℕ → List K → List K → List K
    shift places key key' = join places (λ p. (masked key key' p).0)

    -- the shares of the chosen
    same_share : (roll places : ℕ) (key key' numbers : List K) → within_largest roll m.largest ≡ true → length numbers ≡ places * (t - 1)
        → (p h : ℕ) → p < places → member chosen h ≡ true
        → dealt F m.at roll (t - 1) key' (plus F numbers (shift places key key')) p h ≡ dealt F m.at roll (t - 1) key numbers p h
    same_share roll places key key' numbers within long p h less mine = go (member roll h) refl
      where
        go : (b : Bool) → member roll h ≡ b
            → cond b (eval F (polynomial F (get_or key' p 𝟘) (piece (t - 1) (plus F numbers (shift places key key')) p)) (m.at h)) 𝟘
            ≡ cond b (eval F (polynomial F (get_or key p 𝟘) (piece (t - 1) numbers p)) (m.at h)) 𝟘
        go false off = refl
        go true on =
            let g = masked key key' p in
            let own : piece (t - 1) (plus F numbers (shift places key key')) p ≡ plus F (piece (t - 1) numbers p) g.0 =
            piece_plus F (t - 1) p numbers (shift places key key')
            ∙ ap (plus F (piece (t - 1) numbers p)) (piece_join places (t - 1) p (λ q. (masked key key' q).0) less (λ q. (masked key key' q).1)) in
            let room : length (piece (t - 1) numbers p) ≡ length g.0 =
            length_piece places (t - 1) p numbers less long ∙ sym g.1 in
            let id = member_id chosen h fits mine in
            let pointed : has_point m.largest h ≡ true =
            and_from (leb 1 h) (leb h m.largest) (le-leb 1 h (id_bounds h id).0) (le-leb h m.largest (within_known roll m.largest h within on)) in
            let hidden = all-at _ known g.2 (m.at h) (mem-map m.at ids h (kept_in (has_point m.largest) (members chosen) h (members_in chosen h id mine) pointed)) in
            ap (λ u. eval F (polynomial F (get_or key' p 𝟘) u) (m.at h)) own
            ∙ same_value (get_or key p 𝟘) (get_or key' p 𝟘) (m.at h) (piece (t - 1) numbers p) g.0 room hidden

  pub hides : (m : Points F) → Hides F m
  hides m roll t places key key' chosen fits few long = (
    shift m chosen t fits few places key key',
    λ numbers table c ok.
        let met = deal_met m.largest roll t places (length key) (length numbers) (length table) c ok in
        let shifted = plus F numbers (shift m chosen t fits few places key key') in (
          ap₂ (λ k n. deal_answer m.largest roll t places k n (length table)) long (length_plus F numbers (shift m chosen t fits few places key key')) ∙ ok,
          λ p h less mine.
              let id = id_bounds h (member_id chosen h fits mine) in
              subst (λ c. entry 𝟘 (deal_table F m.at (Ok c) key' shifted table) p h ≡ entry 𝟘 (deal_table F m.at (Ok c) key numbers table) p h)
              (sym met.is)
              (grid_at (dealt F m.at roll (t - 1) key' shifted) places p h 𝟘 less id.0 id.1
              ∙ same_share m chosen t fits few roll places key key' numbers met.known met.numbers_length p h less mine
              ∙ sym (grid_at (dealt F m.at roll (t - 1) key numbers) places p h 𝟘 less id.0 id.1)),
        ),
  )
