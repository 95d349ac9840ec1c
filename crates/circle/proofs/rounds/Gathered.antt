-- What holds of the tally while a round is open, and what each kind of round leaves, at one place: the shares and the tallies are
-- functions of the id. Assumes nothing.
--
-- f is the polynomial that the shares lie on, and g the one that the tally lies on. Both are carried along by functions
-- (`gathered_none`, `gathered_more`, `line_after`), so that a later proof can compute with them.
use Rattle.std.proofs.Common.{◌≡◌, ℕ, ◌-◌, ◌≤◌, true, false, eqb, ◌≢◌, List, [], ◌∷◌, length, replicate, sym, refl, ap, ◌∙◌, ap₂, inl, inr, arith, length-append}
use lib.ListN.{length-replicate}
use Rattle.std.proofs.lemmas.Bool.{cond-true, cond-false, eq-eqb, ne_eqb}
use Rattle.fields.specs.Field.{Ops, FieldLaws, Points, sub}
use Rattle.fields.proofs.Ring.{ring, forms}
use Rattle.circle.specs.Ids.{is_id, member, members, inserted, removed, within_largest}
use Rattle.circle.specs.Lists.{Distinct}
use Rattle.circle.specs.Polynomial.{eval, coefficients, polynomial, sum}
use Rattle.circle.proofs.Lists.{all-at}
use Rattle.circle.proofs.ids.Laws.{in_members, members_distinct, member_empty}
use Rattle.circle.proofs.ids.On.{On, on_in, on_inserted, on_removed, point_id}
use Rattle.circle.proofs.polynomial.Sums.{total, total_same, total-zero, total-add, total_inserted, sum_push, lagrange_members}
use Rattle.circle.proofs.polynomial.Values.{padd, scale, eval_padd, eval_scale, eval_zeros, length_padd, length_scale}
use Rattle.circle.specs.declared.kind.Kind.{Kind}
use Rattle.circle.specs.declared.kind.Kind.TheVariants.{Refresh, Dismissal, Change, Admission}
use Rattle.circle.specs.Contribute.{portion, portions, part}
use Rattle.circle.specs.Finish.{share_after}
use Rattle.circle.specs.Kind.{contributors, roll_after, threshold_after}
use Rattle.circle.specs.Lagrange.{constant_in}
use Rattle.circle.specs.RoundLaws.{Proper, Made}
use Rattle.circle.specs.State.{Facts}
use Rattle.circle.specs.Table.{only}
use Rattle.circle.proofs.rounds.Granted.{Allowed, contributor_on, contributors_enough, change_bounds, newcomer_known, admission_helpers, admission_exact}

-- ## The polynomials

module _ {K : Type 0} (F : Ops K) where
  -- g when the round begins, by the old threshold
  abbrev pub gathered_none : Kind → ℕ → List K
  gathered_none Refresh old = replicate (old - 1) F.zero
  gathered_none (Dismissal leaver) old = replicate (old - 1) F.zero
  gathered_none (Change threshold helpers) old = replicate threshold F.zero
  gathered_none (Admission newcomer helpers) old = []

  -- g after a contribution of i
  abbrev pub gathered_more : (ℕ → K) → Kind → List K → List K → ℕ → List K → List K
  gathered_more at Refresh f g i numbers = padd F g (coefficients numbers)
  gathered_more at (Dismissal leaver) f g i numbers = padd F g (coefficients numbers)
  gathered_more at (Change threshold helpers) f g i numbers =
      padd F g (scale F (constant_in F at helpers i F.zero) (polynomial F (eval F f (at i)) numbers))
  gathered_more at (Admission newcomer helpers) f g i numbers = g

  -- f when the round is finished
  abbrev pub line_after : Kind → List K → List K → List K
  line_after Refresh f g = padd F f (F.zero ∷ g)
  line_after (Dismissal leaver) f g = padd F f (F.zero ∷ g)
  line_after (Change threshold helpers) f g = g
  line_after (Admission newcomer helpers) f g = f

-- ## What holds of shares and tallies

module _ {K : Type 0} (F : Ops K) (at : ℕ → K) where
  -- what u has for the ids of the set lies on g
  abbrev pub Lies : ℕ → (ℕ → K) → List K → Type 0
  Lies set u g = (h : ℕ) → On set h → u h ≡ eval F g (at h)

  -- the shares of the circle lie on f
  pub record Shared (c : Facts) (share : ℕ → K) (f : List K) : Type 0 where
    pub long : length f ≡ c.threshold
    pub lies : Lies c.roll share f

  -- Lagrange's sum for the value of f at z, over those of the helpers that have contributed
  abbrev pub given : ℕ → ℕ → List K → K → K
  given helpers C f z = total F (members helpers) (λ i. only F C i (F.mul (constant_in F at helpers i z) (eval F f (at i))))

  -- what is in the tally, where those of C have contributed
  abbrev pub Gathered : Facts → Kind → ℕ → List K → (ℕ → K) → List K → Type 0
  Gathered c Refresh C f tally g = (length g ≡ c.threshold - 1) × Lies c.roll tally g
  Gathered c (Dismissal leaver) C f tally g = (length g ≡ c.threshold - 1) × Lies (removed c.roll leaver) tally g
  Gathered c (Change threshold helpers) C f tally g =
      (length g ≡ threshold) × Lies c.roll tally g × (eval F g F.zero ≡ given helpers C f F.zero)
  Gathered c (Admission newcomer helpers) C f tally g = total F (members helpers) tally ≡ given helpers C f (at newcomer)

-- ## Only the ids count

abbrev pub Alike : {K : Type 0} → (ℕ → K) → (ℕ → K) → Type 0
Alike u v = (h : ℕ) → is_id h ≡ true → u h ≡ v h

pub lies_alike : {K : Type 0} (F : Ops K) (at : ℕ → K) (set : ℕ) (u v : ℕ → K) (g : List K) → Alike u v → Lies F at set u g → Lies F at set v g
lies_alike F at set u v g same l h on = sym (same h on.0) ∙ l h on

module _ {K : Type 0} {F : Ops K} (laws : FieldLaws F) (m : Points F) where
  open F use {zero as 𝟘, add as ◌⊕◌, mul as ◌⊗◌, neg as ⊖◌}

  infixl 65 ◌⊕◌
  infixl 70 ◌⊗◌
  infix 80 ⊖◌
  pub gathered_alike : (c : Facts) (k : Kind) (C : ℕ) (f : List K) (u v : ℕ → K) (g : List K) → Alike u v
      → Gathered F m.at c k C f u g → Gathered F m.at c k C f v g
  gathered_alike c Refresh C f u v g same e = (e.0, lies_alike F m.at c.roll u v g same e.1)
  gathered_alike c (Dismissal leaver) C f u v g same e = (e.0, lies_alike F m.at (removed c.roll leaver) u v g same e.1)
  gathered_alike c (Change threshold helpers) C f u v g same e = (e.0, lies_alike F m.at c.roll u v g same e.1, e.2)
  gathered_alike c (Admission newcomer helpers) C f u v g same e =
      total_same laws.ring (members helpers) v u (λ h i. sym (same h (in_members helpers h i).0)) ∙ e

  -- ## Sums

  only_on : (set h : ℕ) (x : K) → On set h → only F set h x ≡ x
  only_on set h x on = cond-true (member set h) x 𝟘 on.1

  given_none : (helpers : ℕ) (f : List K) (z : K) → given F m.at helpers 0 f z ≡ 𝟘
  given_none helpers f z = total-zero laws.ring (members helpers) _ (λ h _. cond-false (member 0 h) _ 𝟘 (member_empty h))

  given_more : (helpers C : ℕ) (f : List K) (z : K) (i : ℕ) → On helpers i → member C i ≡ false
      → given F m.at helpers (inserted C i) f z ≡ given F m.at helpers C f z ⊕ constant_in F m.at helpers i z ⊗ eval F f (m.at i)
  given_more helpers C f z i on new =
      total_inserted laws.ring (members helpers) C i (λ k. constant_in F m.at helpers k z ⊗ eval F f (m.at k))
      (members_distinct helpers) (on_in helpers i on) on.0 new

  -- when all the helpers have contributed, the sum is the value of f at z
  given_all : (helpers C : ℕ) (f : List K) (z : K) → within_largest helpers m.largest ≡ true
      → ((h : ℕ) → On helpers h → On C h) → length f ≤ length (members helpers) → given F m.at helpers C f z ≡ eval F f z
  given_all helpers C f z known all few =
      total_same laws.ring (members helpers) _ _ (λ h i. only_on C h _ (all h (in_members helpers h i)))
      ∙ lagrange_members laws m helpers f z known few

  -- ## Portions

  portion_total : (is : List ℕ) (xs : List K) → Distinct is → length xs ≡ length is → total F is (portion F m.at is xs) ≡ sum F xs
  portion_total [] [] d e = refl
  portion_total [] (x ∷ xs) d e = absurd (omega arith)
  portion_total (i ∷ is) [] d e = absurd (omega arith)
  portion_total (i ∷ is) (x ∷ xs) d e =
      ap₂ ◌⊕◌
      (cond-true (eqb i i) x _ (eq-eqb i i refl))
      (total_same laws.ring is _ (portion F m.at is xs)
      (λ h k. cond-false (eqb h i) x _ (ne_eqb h i (λ q. all-at (λ y. i ≢ y) is d.0 h k (sym q))))
      ∙ portion_total is xs d.1 (omega arith))

  portions_sum : (whole : K) (numbers : List K) → sum F (portions F m.at whole numbers) ≡ whole
  portions_sum whole numbers =
      sum_push laws.ring numbers (sub F whole (sum F numbers))
      ∙ ring laws.ring (whole ∷ sum F numbers ∷ []) (search forms) (search forms) refl

  -- ## A round begins

  zeros_lie : (set n : ℕ) → Lies F m.at set (λ h. 𝟘) (replicate n 𝟘)
  zeros_lie set n h on = sym (eval_zeros laws.ring n (m.at h))

  pub round_begins : (c : Facts) (k : Kind) (f : List K)
      → Gathered F m.at c k 0 f (λ h. 𝟘) (gathered_none F k c.threshold)
  round_begins c Refresh f = (length-replicate _ 𝟘, zeros_lie c.roll _)
  round_begins c (Dismissal leaver) f = (length-replicate _ 𝟘, zeros_lie (removed c.roll leaver) _)
  round_begins c (Change threshold helpers) f = (
    length-replicate threshold 𝟘,
    zeros_lie c.roll threshold,
    eval_zeros laws.ring threshold 𝟘 ∙ sym (given_none helpers f 𝟘),
  )
  round_begins c (Admission newcomer helpers) f =
      total-zero laws.ring (members helpers) (λ h. 𝟘) (λ h _. refl) ∙ sym (given_none helpers f (m.at newcomer))

  -- ## A contribution

  lies_more : (set : ℕ) (tally : ℕ → K) (g p : List K) → Lies F m.at set tally g
      → Lies F m.at set (λ h. tally h ⊕ only F set h (eval F p (m.at h))) (padd F g p)
  lies_more set tally g p l h on = ap₂ ◌⊕◌ (l h on) (only_on set h _ on) ∙ sym (eval_padd laws.ring g p (m.at h))

  pub round_grows : (c : Facts) (k : Kind) (C : ℕ) (share tally : ℕ → K) (f g : List K) (i : ℕ) (numbers : List K)
      → Proper c → Allowed m.largest c k → On (contributors k c.roll) i → member C i ≡ false
      → length numbers ≡ threshold_after k c.threshold - 1 → Shared F m.at c share f → Gathered F m.at c k C f tally g
      → Gathered F m.at c k (inserted C i) f (λ h. tally h ⊕ part F m.at k c.roll i (share i) numbers h)
      (gathered_more F m.at k f g i numbers)
  round_grows c Refresh C share tally f g i numbers p a on new long s e =
      (omega (arith, length_padd laws.ring g numbers, e.0), lies_more c.roll tally g numbers e.1)
  round_grows c (Dismissal leaver) C share tally f g i numbers p a on new long s e =
      (omega (arith, length_padd laws.ring g numbers, e.0), lies_more (removed c.roll leaver) tally g numbers e.1)
  round_grows c (Change threshold helpers) C share tally f g i numbers p a on new long s e =
      let γ = constant_in F m.at helpers i 𝟘 in
      let own = polynomial F (eval F f (m.at i)) numbers in
      let bounds = change_bounds threshold helpers a in
      let share-i : share i ≡ eval F f (m.at i) = s.lies i (contributor_on (Change threshold helpers) a i on) in (
        omega (arith, length_padd laws.ring g (scale F γ own), length_scale laws.ring γ own, e.0),
        (λ h r.
            ap (λ y. tally h ⊕ only F c.roll h y)
            (ap (λ y. γ ⊗ (y ⊕ m.at h ⊗ eval F numbers (m.at h))) share-i ∙ sym (eval_scale laws.ring γ own (m.at h)))
            ∙ lies_more c.roll tally g (scale F γ own) e.1 h r),
        eval_padd laws.ring g (scale F γ own) 𝟘
            ∙ ap₂ ◌⊕◌ e.2 (eval_scale laws.ring γ own 𝟘
            ∙ ring laws.ring (γ ∷ eval F f (m.at i) ∷ eval F numbers 𝟘 ∷ []) (search forms) (search forms) refl)
            ∙ sym (given_more helpers C f 𝟘 i on new),
      )
  round_grows c (Admission newcomer helpers) C share tally f g i numbers p a on new long s e =
      let γ = constant_in F m.at helpers i (m.at newcomer) in
      let own = portions F m.at (γ ⊗ share i) numbers in
      let exact = admission_exact newcomer helpers m.few a in
      total-add laws.ring (members helpers) tally (portion F m.at (members helpers) own)
      ∙ ap₂ ◌⊕◌ e
      (portion_total (members helpers) own (members_distinct helpers)
      (omega (arith, p.low, length-append numbers (sub F (γ ⊗ share i) (sum F numbers) ∷ [])))
      ∙ portions_sum (γ ⊗ share i) numbers
      ∙ ap (λ y. γ ⊗ y) (s.lies i (contributor_on (Admission newcomer helpers) a i on)))
      ∙ sym (given_more helpers C f (m.at newcomer) i on new)

  -- ## A round is finished

  -- refresh and dismissal: a polynomial without constant term is added
  renewed_value : (f g : List K) (x : K) → eval F (padd F f (𝟘 ∷ g)) x ≡ eval F f x ⊕ x ⊗ eval F g x
  renewed_value f g x =
      eval_padd laws.ring f (𝟘 ∷ g) x ∙ ring laws.ring (eval F f x ∷ eval F g x ∷ x ∷ []) (search forms) (search forms) refl

  renewed : (c : Facts) (rest : ℕ) (share tally : ℕ → K) (f g : List K) → ((h : ℕ) → On rest h → On c.roll h)
      → Shared F m.at c share f → Lies F m.at rest tally g
      → Lies F m.at rest (λ h. only F rest h (share h ⊕ m.at h ⊗ tally h)) (padd F f (𝟘 ∷ g))
  renewed c rest share tally f g among s l h on =
      only_on rest h _ on
      ∙ ap₂ (λ x y. x ⊕ m.at h ⊗ y) (s.lies h (among h on)) (l h on)
      ∙ sym (renewed_value f g (m.at h))

  renewed_long : (t : ℕ) (f g : List K) → 2 ≤ t → length f ≡ t → length g ≡ t - 1 → length (padd F f (𝟘 ∷ g)) ≡ t
  renewed_long t f g low long e = omega (arith, length_padd laws.ring f (𝟘 ∷ g))

  renewed_constant : (f g : List K) → eval F (padd F f (𝟘 ∷ g)) 𝟘 ≡ eval F f 𝟘
  renewed_constant f g =
      renewed_value f g 𝟘 ∙ ring laws.ring (eval F f 𝟘 ∷ eval F g 𝟘 ∷ []) (search forms) (search forms) refl

  -- the circle, who has contributed, the shares and the tally, as finishing finds them
  module _ (c : Facts) (C : ℕ) (share tally : ℕ → K) (f g : List K) (p : Proper c) (s : Shared F m.at c share f) where
    -- a change has gathered the constant term, and an admission the newcomer's share
    change_gathers : (t helpers : ℕ) → Allowed m.largest c (Change t helpers) → ((h : ℕ) → On helpers h → On C h)
        → given F m.at helpers C f 𝟘 ≡ eval F f 𝟘
    change_gathers t helpers a all =
        given_all helpers C f 𝟘 a.known all (omega (arith, s.long, contributors_enough (Change t helpers) m.few p a))

    admission_gathers : (newcomer helpers : ℕ) → Allowed m.largest c (Admission newcomer helpers) → ((h : ℕ) → On helpers h → On C h)
        → given F m.at helpers C f (m.at newcomer) ≡ eval F f (m.at newcomer)
    admission_gathers newcomer helpers a all =
        given_all helpers C f (m.at newcomer) (admission_helpers newcomer helpers a) all
        (omega (arith, s.long, contributors_enough (Admission newcomer helpers) m.few p a))

    pub round_long : (k : Kind) → Gathered F m.at c k C f tally g → length (line_after F k f g) ≡ threshold_after k c.threshold
    round_long Refresh e = renewed_long c.threshold f g p.low s.long e.0
    round_long (Dismissal leaver) e = renewed_long c.threshold f g p.low s.long e.0
    round_long (Change threshold helpers) e = e.0
    round_long (Admission newcomer helpers) e = s.long

    pub round_made : (k : Kind) → Gathered F m.at c k C f tally g → Made F m k f (line_after F k f g)
    round_made Refresh e = (g, omega (arith, p.low, s.long, e.0), renewed_value f g)
    round_made (Dismissal leaver) e = (g, omega (arith, p.low, s.long, e.0), renewed_value f g)
    round_made (Change threshold helpers) e = tt
    round_made (Admission newcomer helpers) e = refl

    pub round_keeps : (k : Kind) → Allowed m.largest c k → ((h : ℕ) → On (contributors k c.roll) h → On C h)
        → Gathered F m.at c k C f tally g → eval F (line_after F k f g) 𝟘 ≡ eval F f 𝟘
    round_keeps Refresh a all e = renewed_constant f g
    round_keeps (Dismissal leaver) a all e = renewed_constant f g
    round_keeps (Change threshold helpers) a all e = e.2 ∙ change_gathers threshold helpers a all
    round_keeps (Admission newcomer helpers) a all e = refl

    pub round_ends : (k : Kind) → Allowed m.largest c k → ((h : ℕ) → On (contributors k c.roll) h → On C h)
        → Gathered F m.at c k C f tally g
        → Lies F m.at (roll_after k c.roll) (λ h. only F (roll_after k c.roll) h (share_after F m.at k share tally h))
        (line_after F k f g)
    round_ends Refresh a all e = renewed c c.roll share tally f g (λ h on. on) s e.1
    round_ends (Dismissal leaver) a all e = renewed c (removed c.roll leaver) share tally f g (on_removed c.roll leaver) s e.1
    round_ends (Change threshold helpers) a all e = λ h on. only_on c.roll h _ on ∙ e.1 h on
    round_ends (Admission newcomer helpers) a all e = λ h on.
        only_on (inserted c.roll newcomer) h _ on
        ∙ elim (on_inserted c.roll newcomer h (point_id m.largest newcomer m.few (newcomer_known newcomer helpers a)) on) [
          | inl q ↦
              cond-true (eqb h newcomer) _ (share h) q.0
              ∙ e
              ∙ admission_gathers newcomer helpers a all
              ∙ ap (λ x. eval F f (m.at x)) (sym q.1)
          | inr q ↦ cond-false (eqb h newcomer) (total F (members helpers) tally) (share h) q.0 ∙ s.lies h q.1
        ]
