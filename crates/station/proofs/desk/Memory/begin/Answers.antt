use Rattle.std.proofs.Common.{length, drop, sym, subst, arith}
use Rattle.std.proofs.lemmas.List.{take_at}
use Rattle.circle.specs.State.{facts}
use Rattle.station.specs.DeskParts.{SameCircle}
use Rattle.station.proofs.desk.Back.{begin_same}
use Rattle.station.proofs.desk.Memory.begin.Goals as goal

pub returns-clause-done : goal.returns-clause-done
returns-clause-done g c =
    let circle = facts c.args.circle in
    let old = c.args.self.now.tally in
    let written = take_at c.begin.new.tally (drop (length c.begin.new.tally) old.items) old.len (omega (arith, c.begin.auto.tally, c.as_mut_slice.ensures.len)) in
    record {
      answered = cc;
      written = cc;
      same = subst (SameCircle circle) (sym c.begin.ensures.answer) (begin_same g.F.Field.points.largest circle c.args.kind _);
    }
