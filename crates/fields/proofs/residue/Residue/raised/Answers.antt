use Rattle.std.proofs.Common.{◌*◌, ◌<◌, sym, ◌∙◌, mod-lt, arith}
use Rattle.fields.specs.ResidueLaws.{residue_≡}
use Rattle.fields.proofs.residue.Powers.{start, done, turn_even, turn_odd}
use Rattle.fields.proofs.residue.Residue.raised.Goals as goal
use Rattle.fields.proofs.residue.Residue.raised.Goals.{then-left-eq1, else-left-eq1}

pub loop-left-init : goal.loop-left-init
loop-left-init g c =
    let some : 0 < g.row.P = omega arith in
    (mod-lt 1 some, c.args.self.ok, start g.row.P c.args.self.value c.args.exponent)

pub loop-left-preserved : goal.loop-left-preserved
loop-left-preserved g c =
    let p = g.row.P in
    let some : 0 < p = omega arith in
    let r = c.loop-left.result in
    let s = c.loop-left.square in
    let l = c.loop-left.left in
    elim c.if-left-eq1.branch [
      | then-left-eq1 w ↦
          let odd = turn_odd p r s l w.if-left-eq1.true in
          let less : c.if-left-eq1.result < p = rw w.result-is (mod-lt (r * s) some) in
          (less, mod-lt (s * s) some, rw w.result-is (odd ∙ c.loop-left.invariant.2))
      | else-left-eq1 w ↦
          let even = turn_even p r s l (omega (arith, w.if-left-eq1.false)) in
          let less : c.if-left-eq1.result < p = rw w.result-is c.loop-left.invariant.0 in
          (less, mod-lt (s * s) some, rw w.result-is (even ∙ c.loop-left.invariant.2))
    ]

pub returns : goal.returns
returns g c = residue_≡ (sym (done g.row.P c.loop-left.result c.loop-left.square c.loop-left.left (omega arith) c.loop-left.invariant.0) ∙ c.loop-left.invariant.2)
