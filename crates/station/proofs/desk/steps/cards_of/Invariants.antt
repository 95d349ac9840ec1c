-- what is read so far and what is left come to all cards
use Rattle.std.proofs.Common.{◌≡◌, true, ◌++◌, map, length, vec_items}
use Rattle.circle.specs.Open.{faces}
use Rattle.std.specs.List.{list_all}
use Rattle.station.specs.Desk.{elements, face_of}
use Rattle.script.specs.Grammar.{before, is_slash, values}
use Rattle.script.specs.Steps.{card_stands, cards, stated}
use Rattle.station.proofs.desk.steps.cards_of.Given as goal

abbrev pub invariant-loop-card : goal.invariant-loop-card
invariant-loop-card g l =
    let m = g.F.Field in
    let face = face_of m.ops m.finite m.points in
    record {
      named : l.elements ≡ elements m.ops m.finite (values l.left);
      begins : before is_slash l.left ≡ 0;
      stand : list_all (card_stands m.finite.size) (cards l.left) ≡ true;
      so_far : faces (vec_items l.all) ++ map face (map stated (cards l.left)) ≡ map face (map stated (cards l.tokens));
    }

abbrev pub decreases-loop-card : goal.decreases-loop-card
decreases-loop-card g l = length l.left
