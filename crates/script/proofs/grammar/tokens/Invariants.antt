-- the words so far are the tokens so far
use Rattle.std.proofs.Common.{◌≡◌, Some, map, vec_items}
use Rattle.script.specs.Grammar.{tokens}
use Rattle.script.proofs.grammar.tokens.Given as goal

abbrev pub invariant-loop-word : goal.invariant-loop-word
invariant-loop-word l = tokens (map (λ w. w.now) l.yielded) ≡ Some (vec_items l.room)
