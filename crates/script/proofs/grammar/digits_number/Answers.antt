use Rattle.std.proofs.Common.{rules}
use Rattle.std.proofs.lemmas.Iterator.{YieldsList-from_slice}
use borrow.Author.Tests.{tests}
use Rattle.script.proofs.grammar.Numbers.{number_folded}
use Rattle.script.proofs.grammar.digits_number.Goals as goal

pub returns : goal.returns
returns c =
    let word = c.args.word.now in
    number_folded _ _ _ (λ a x v q k. search (rules, tests)) _ word (YieldsList-from_slice word cc) _ c.try_fold.ensures.ran
