use Rattle.std.proofs.Common.{sym, ◌∙◌, arith}
use Rattle.std.proofs.lemmas.Bool.{le-leb}
use Rattle.circle.proofs.ids.Laws.{within_all}
use Rattle.circle.proofs.ids.IdSet.all_within.Goals as goal

pub returns-then-largest-ge32 : goal.returns-then-largest-ge32
returns-then-largest-ge32 c =
    let l = c.if-largest-ge32.true in
    le-leb 32 c.args.largest l ∙ sym (within_all c.args.self c.args.largest (omega arith) l)
