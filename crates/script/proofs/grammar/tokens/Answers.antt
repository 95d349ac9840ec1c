use Rattle.std.proofs.Common.{rules, ◌≡◌, ◌∷◌, [], ◌<◌, ℕ, List, Option, Some, None, Bor, map, drop, get_or, length, sym, ap, ◌∙◌, arith}
use Rattle.std.specs.Iterator.{Yields}
use Rattle.std.proofs.lemmas.List.{map-append}
use Rattle.std.proofs.lemmas.Iterator.{YieldsList}
use Rattle.std.proofs.lemmas.Iterator.Consumers.{YieldsList-at, YieldsList-turn, YieldsList-end}
use Rattle.std.proofs.lemmas.Iterator.Splits.{YieldsList-from_slice_split}
use borrow.Author.Tests.{tests}
use Rattle.script.specs.Grammar.{is_space, words, tokens}
use Rattle.script.specs.declared.grammar.Token.{Token}
use Rattle.script.proofs.grammar.Laws.{split_cut, tokens_push, tokens_fail}
use Rattle.script.proofs.grammar.tokens.Goals as goal

turn : {S : Type 0} {steps : S → Option (Bor (List ℕ)) → S → Type 0} {s : S} (ws : List (List ℕ)) (xs : List (Bor (List ℕ))) (t : S) → Yields steps s xs t
    → (r : Option (Bor (List ℕ))) (u : S) (x : Bor (List ℕ)) → r ≡ Some x → steps t r u → YieldsList steps (λ w. w.now) s ws
    → (length xs < length ws) × (x.now ≡ get_or ws (length xs) x.now)
turn ws xs t y r u x is step all = YieldsList-turn all xs t y r u x is step

ends : {S : Type 0} {steps : S → Option (Bor (List ℕ)) → S → Type 0} {s : S} (ws : List (List ℕ)) (xs : List (Bor (List ℕ))) (t : S) → Yields steps s xs t
    → (r : Option (Bor (List ℕ))) (u : S) → r ≡ None → steps t r u → YieldsList steps (λ w. w.now) s ws → map (λ w. w.now) xs ≡ ws
ends ws xs t y r u is step all = (YieldsList-end all xs t y r u is step).0

-- after its first item, an iterator over words has the others left
others : {S : Type 0} {steps : S → Option (Bor (List ℕ)) → S → Type 0} {s t : S} (ws : List (List ℕ)) (r : Option (Bor (List ℕ))) → 0 < length ws → steps s r t
    → YieldsList steps (λ w. w.now) s ws → YieldsList steps (λ w. w.now) t (drop 1 ws)
others [] r some step all = absurd (omega arith)
others {t} (w ∷ ws) None some step all = absurd (all.runs.0 t step)
others {t} (w ∷ ws) (Some x) some step all = record { runs = (all.runs.1 x t step).1 }

some_word : (line : List ℕ) → 0 < length (words line)
some_word line = omega (arith, ap length (split_cut is_space line))

pub loop-word-preserved : goal.loop-word-preserved
loop-word-preserved c =
    let so_far = map (λ (w : Bor (List ℕ)). w.now) c.loop-word.yielded in
    ap tokens (map-append (λ (w : Bor (List ℕ)). w.now) c.loop-word.yielded (c.in-Some.word ∷ []))
    ∙ tokens_push so_far _ c.in-Some.word.now _ c.loop-word.invariant (sym c.in-Some-read_token.ensures)
    ∙ ap Some (sym {A = List Token} c.in_ok-push-in-Some-read_token.ensures.items)

pub returns-in-None-read_token : goal.returns-in-None-read_token
returns-in-None-read_token c =
    let ws = drop 1 (words c.args.line.now) in
    sym (tokens_fail ws (length c.loop-word.yielded) c.in-Some.word.now
    (turn ws c.loop-word.yielded _ c.loop-word.yielded_by _ _ c.in-Some.word c.in-Some.is c.next-in-loop-word.ensures.steps
    (YieldsList-at (cc) (others (words c.args.line.now) c.next.result (some_word c.args.line.now) c.next.ensures.steps
    (YieldsList-from_slice_split _ is_space c.args.line.now (cc) (cc) (cc) (λ x b q k. search (rules, tests))))))
    (sym c.in-None-read_token.ensures))

pub returns : goal.returns
returns c =
    let ws = drop 1 (words c.args.line.now) in
    let whole : map (λ (w : Bor (List ℕ)). w.now) c.loop-word.yielded ≡ ws =
    ends ws c.loop-word.yielded _ c.loop-word.yielded_by _ _ c.in-None.is c.next-in-loop-word.ensures.steps
    (YieldsList-at (cc) (others (words c.args.line.now) c.next.result (some_word c.args.line.now) c.next.ensures.steps
    (YieldsList-from_slice_split _ is_space c.args.line.now (cc) (cc) (cc) (λ x b q k. search (rules, tests))))) in
    ap Some c.as_slice.ensures.value ∙ sym c.loop-word.invariant ∙ ap tokens whole
