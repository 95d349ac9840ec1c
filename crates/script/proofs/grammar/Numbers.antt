-- A word is a number just where it is that number in decimal.
use Rattle.std.proofs.Common.{◌≡◌, ℕ, ◌+◌, ◌-◌, ◌*◌, ◌^◌, ◌<◌, ◌≤◌, Bool, true, false, cond, not, ◌&&◌, eqb, ltb, leb, List, [], ◌∷◌, ◌++◌, map, length, get_or, drop, Some, None, Bor, MatchOption, decimal, Option, sym, refl, ap, subst, ◌∙◌, inl, inr, arith}
use Rattle.std.specs.Bool.{then_some}
use Rattle.std.specs.Char.{is_ascii_digit}
use Rattle.std.specs.ControlFlow.{continue_value}
use Rattle.std.specs.Fn.{Called}
use Rattle.std.specs.Iterator.{TryFoldTurn, TryFoldsItems}
use Rattle.std.specs.List.{FoldsTo}
use Rattle.std.specs.Str.{all_ascii_digits}
use denote.Param.Members.{Mut}
use Rattle.std.proofs.lemmas.Iterator.{YieldsList}
use Rattle.std.proofs.lemmas.Iterator.Consumers.{YieldsList-so_far, YieldsList-turn, YieldsList-end}
use Rattle.std.proofs.lemmas.List.{append-nil, drop_more, take-append-drop}
use Rattle.std.proofs.lemmas.Str.Parse.{IsNumeralModel, numerals_by_fold, tells_all_ascii_digits}
use Rattle.std.proofs.lemmas.Fmt.{decimal-digits_value, digits_decimal, digits_value-decimal, decimal_nonempty, decimal_digit, first_decimal}
use Rattle.std.proofs.lemmas.Option.{none-some, same_Some}
use Rattle.std.proofs.lemmas.Bool.{and_parts, and_from, and_right, or_cases, or_left, or_right, ltb-true, lt-ltb, lt-leb, leb-true, le-leb, eqb-true, eqb-false, eq-eqb, ne_eqb, not-true, not_from_false, cases_Bool, cases_lt}
use Rattle.script.specs.Grammar.{read_on, unpadded, digits_number, number}

-- ## A value under a test

pub some_under : {A : Type 0} (test : Bool) (o : Option A) (y : A) → cond test o None ≡ Some y → (test ≡ true) × (o ≡ Some y)
some_under true o y e = (refl, e)
some_under false o y e = absurd (none-some y e)

-- ## Numbers

own : IsNumeralModel (λ ds. all_ascii_digits ds ≡ true) (read_on 0)
own = numerals_by_fold _ tells_all_ascii_digits read_on (record { empty = λ n. refl; more = λ n c cs d. refl })

lone_zero : (word : List ℕ) → unpadded word ≡ true → get_or word 0 0 ≡ 48 → length word ≡ 1
lone_zero word plain zero-first =
    elim (or_cases (eqb (length word) 1) (not (eqb (get_or word 0 0) 48)) plain) [
      | inl one ↦ eqb-true _ _ one
      | inr other ↦ absurd (eqb-false _ _ (not-true _ other) zero-first)
    ]

pub number_reads : (word : List ℕ) (n : ℕ) → number word ≡ Some n → (word ≡ decimal n) × (n ≤ 65535)
number_reads word n is =
    let outer = some_under (ltb 0 (length word) && unpadded word) (digits_number word) n is in
    let inner = some_under (all_ascii_digits word && leb (read_on 0 word) 65535) (Some (read_on 0 word)) n outer.1 in
    let shape = and_parts (ltb 0 (length word)) (unpadded word) outer.0 in
    let digits = and_parts (all_ascii_digits word) (leb (read_on 0 word) 65535) inner.0 in
    let value : read_on 0 word ≡ n = same_Some _ _ inner.1 in
    let small : read_on 0 word ≤ 65535 = leb-true _ _ digits.1 in
    let back : decimal (read_on 0 word) ≡ word =
    decimal-digits_value own word digits.0 (ltb-true _ _ shape.0) (lone_zero word shape.1) (omega arith) in
    (sym back ∙ ap decimal value, omega arith)

pub number_writes : (word : List ℕ) (n : ℕ) → word ≡ decimal n → n ≤ 65535 → number word ≡ Some n
number_writes word n is small =
    let fits : n < 2 ^ 64 = omega arith in
    let digits : all_ascii_digits (decimal n) ≡ true = digits_decimal own n fits in
    let value : read_on 0 (decimal n) ≡ n = digits_value-decimal own n fits in
    let some : ltb 0 (length (decimal n)) ≡ true = lt-ltb _ _ (decimal_nonempty n fits) in
    let plain : unpadded (decimal n) ≡ true =
    elim (cases_lt 0 n) [
      | inl positive ↦
          let first : eqb (get_or (decimal n) 0 0) 48 ≡ false = ne_eqb _ _ (λ e. absurd (omega (arith, first_decimal n positive fits, e))) in
          or_right _ _ (not_from_false _ first)
      | inr none ↦ or_left _ _ (eq-eqb _ _ (ap length (decimal_digit n (omega arith))))
    ] in
    let shape : (ltb 0 (length (decimal n)) && unpadded (decimal n)) ≡ true = and_from _ _ some plain in
    let within : (all_ascii_digits (decimal n) && leb (read_on 0 (decimal n)) 65535) ≡ true = and_from _ _ digits (le-leb _ _ (omega arith)) in
    ap number is ∙ rw (shape, within) (ap Some value)

-- ## Reading, digit by digit

-- what digits write after a number, if it is at most 65,535
abbrev number_after : ℕ → List ℕ → Option ℕ
number_after n cs = cond (all_ascii_digits cs && leb (read_on n cs) 65535) (Some (read_on n cs)) None

-- the number with one digit more
abbrev one_more : ℕ → ℕ → Option ℕ
one_more n c = then_some (is_ascii_digit c && leb (n * 10 + (c - 48)) 65535) (n * 10 + (c - 48))

read_on-least : (n : ℕ) (cs : List ℕ) → n ≤ read_on n cs
read_on-least n [] = omega arith
read_on-least n (c ∷ cs) = omega (arith, read_on-least (n * 10 + (c - 48)) cs)

then_some-parts : {A : Type 0} (test : Bool) (x y : A) → then_some test x ≡ Some y → (test ≡ true) × (x ≡ y)
then_some-parts true x y e = (refl, same_Some _ _ e)
then_some-parts false x y e = absurd (none-some y e)

digit_on : (n c m : ℕ) → one_more n c ≡ Some m → (m ≤ 65535) × ((cs : List ℕ) → number_after n (c ∷ cs) ≡ number_after m cs)
digit_on n c m is =
    let parts = then_some-parts (is_ascii_digit c && leb (n * 10 + (c - 48)) 65535) (n * 10 + (c - 48)) m is in
    let tests = and_parts (is_ascii_digit c) (leb (n * 10 + (c - 48)) 65535) parts.0 in
    let within : n * 10 + (c - 48) ≤ 65535 = leb-true _ _ tests.1 in (
      omega (arith, within, parts.1),
      λ cs. rw tests.0 (ap (λ k. number_after k cs) parts.1),
    )

digit_off : (n c : ℕ) (cs : List ℕ) → one_more n c ≡ None → number_after n (c ∷ cs) ≡ None
digit_off n c cs none =
    let m = n * 10 + (c - 48) in
    elim (cases_Bool (is_ascii_digit c)) [
      | inl digit ↦
          elim (cases_lt 65535 m) [
            | inl large ↦
                let much : leb (read_on m cs) 65535 ≡ false = lt-leb _ _ (omega (arith, large, read_on-least m cs)) in
                rw much (rw (and_right (is_ascii_digit c && all_ascii_digits cs) false refl) refl)
            | inr small ↦
                let within : leb m 65535 ≡ true = le-leb _ _ small in
                absurd (none-some m (sym (rw (digit, within) at none)))
          ]
      | inr other ↦ rw other refl
    ]

module _ {F : Type 0} (E : Type 0) (g : Mut F (ℕ × (Bor ℕ × Unit {0})) (Option ℕ)) (f : F)
    (k : (a : ℕ) (x : Bor ℕ) (v : Option ℕ) (q : F) → Called g f (a, (x, tt)) v q → (q ≡ f) × (v ≡ one_more a x.now)) where
  abbrev Goes : F × ℕ → Bor ℕ → F × ℕ → Type 0
  Goes = TryFoldTurn {E = E} g (λ v c. v ≡ continue_value c)

  through : (xs : List (Bor ℕ)) (p q : F × ℕ) → p.0 ≡ f → p.1 ≤ 65535 → FoldsTo Goes p xs q
      → (q.0 ≡ f) × (q.1 ≤ 65535) × ((cs : List ℕ) → number_after p.1 (map (λ x. x.now) xs ++ cs) ≡ number_after q.1 cs)
  through [] p q a small c = (ap (λ w. w.0) (sym c) ∙ a, omega (arith, small, ap (λ w. w.1) c), λ cs. ap (λ w. number_after w.1 cs) c)
  through (x ∷ xs) p q a small c =
      let called = subst (λ w. Called g w (p.1, (x, tt)) c.1.0 c.0.0) a c.1.1 in
      let turn = k p.1 x c.1.0 c.0.0 called in
      let on = digit_on p.1 x.now c.0.1 (sym turn.1 ∙ c.1.2) in
      let rest = through xs c.0 q turn.0 on.0 c.2 in
      (rest.0, rest.1, λ cs. on.1 (map (λ x. x.now) xs ++ cs) ∙ rest.2 cs)

  module _ {S : Type 0} {steps : S → Option (Bor ℕ) → S → Type 0} {s : S} (u : S) (word : List ℕ) (all : YieldsList steps (λ x. x.now) s word) where
    -- a fold that goes on from digit to digit gives the number, and stops where there is none
    pub number_folded : (r : Option ℕ) → TryFoldsItems steps g (λ v c. v ≡ continue_value c) (λ (e : E) r. r ≡ None) s f 0 r u → r ≡ digits_number word
    number_folded r ran = by ran.1 ran.4.2 ran.6
      where
        xs : List (Bor ℕ)
        xs = ran.0

        way : (ran.2 ≡ f) × (ran.3 ≤ 65535) × ((cs : List ℕ) → number_after 0 (map (λ x. x.now) xs ++ cs) ≡ number_after ran.3 cs)
        way = through xs (f, 0) (ran.2, ran.3) refl (omega arith) ran.5

        by : (o : Option (Bor ℕ)) → steps ran.4.0 o u
            → MatchOption o (r ≡ Some ran.3) (λ x. (v : Option ℕ) × (h : F) × (e : E) × Called g ran.2 (ran.3, (x, tt)) v h × (v ≡ None) × (r ≡ None))
            → r ≡ digits_number word
        by None step m =
            let whole = (YieldsList-end all xs ran.4.0 ran.4.1 None u refl step).0 in
            let small : leb ran.3 65535 ≡ true = le-leb _ _ way.1 in
            let last : number_after ran.3 [] ≡ Some ran.3 = rw small refl in
            m ∙ sym (ap (number_after 0) (sym whole ∙ sym (append-nil (map (λ x. x.now) xs))) ∙ way.2 [] ∙ last)
        by (Some x) step m =
            let n = length xs in
            let turn = YieldsList-turn all xs ran.4.0 ran.4.1 (Some x) u x refl step in
            let rest : drop n word ≡ x.now ∷ drop (n + 1) word = drop_more word n x.now turn.0 ∙ ap (λ c. c ∷ drop (n + 1) word) (sym turn.1) in
            let whole : map (λ x. x.now) xs ++ (x.now ∷ drop (n + 1) word) ≡ word =
            ap (λ l. map (λ x. x.now) xs ++ l) (sym rest) ∙ ap (λ l. l ++ drop n word) (YieldsList-so_far all xs ran.4.0 ran.4.1) ∙ take-append-drop n word in
            let none = sym (k ran.3 x m.0 m.1 (subst (λ w. Called g w (ran.3, (x, tt)) m.0 m.1) way.0 m.3)).1 ∙ m.4 in
            m.5 ∙ sym (ap (number_after 0) (sym whole) ∙ way.2 (x.now ∷ drop (n + 1) word) ∙ digit_off ran.3 x.now (drop (n + 1) word) none)
