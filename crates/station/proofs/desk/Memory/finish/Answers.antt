use Rattle.std.proofs.Common.{length, drop, sym, subst, arith}
use Rattle.std.proofs.lemmas.List.{take_at}
use Rattle.circle.specs.Round.{round_facts}
use Rattle.station.specs.DeskParts.{SameRound}
use Rattle.station.proofs.desk.Back.{finish_same}
use Rattle.station.proofs.desk.Memory.finish.Goals as goal

pub returns-clause-done : goal.returns-clause-done
returns-clause-done g c =
    let round = round_facts c.args.round in
    let table = c.args.self.now.table in
    let tally = c.args.self.now.tally in
    let shares = take_at c.finish.new.table (drop (length c.finish.new.table) table.items) table.len (omega (arith, c.finish.auto.table, c.as_mut_slice.ensures.len)) in
    let written = take_at c.finish.new.tally (drop (length c.finish.new.tally) tally.items) tally.len (omega (arith, c.finish.auto.tally, c.as_mut_slice-2.ensures.len)) in
    record {
      answered = cc;
      renewed = cc;
      written = cc;
      same = subst (SameRound round) (sym c.finish.ensures.answer) (finish_same g.F.Field.points.largest round _ _);
    }
