use Rattle.std.proofs.Common.{◌≡◌, ℕ, ◌<◌, get_or}
use Rattle.station.specs.Desk.{elements}
use Rattle.script.specs.Grammar.{values}
use Rattle.station.proofs.desk.steps.write_elements.Given as goal

abbrev pub invariant-loop-i : goal.invariant-loop-i
invariant-loop-i g l =
    let m = g.F.Field in
    (k : ℕ) → k < l.i → get_or l.xs k m.ops.zero ≡ get_or (elements m.ops m.finite (values l.tokens)) k m.ops.zero
