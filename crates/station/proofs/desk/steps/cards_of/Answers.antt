use Rattle.std.proofs.Common.{◌≡◌, ◌++◌, map, take, drop, vec_items, sym, ap, ◌∙◌, arith}
use Rattle.circle.specs.Open.{faces}
use Rattle.std.proofs.lemmas.List.{length-map}
use Rattle.station.specs.Desk.{elements, face_of}
use Rattle.script.specs.Grammar.{value, values}
use Rattle.script.specs.Steps.{Stated, cards, stated}
use Rattle.script.specs.declared.steps.Card.{Card}
use Rattle.station.proofs.desk.Walk.{card_within, card_shares, card_left, cards_more}
use Rattle.script.proofs.steps.Laws.{open_begins, walk_more}
use Rattle.station.proofs.desk.steps.cards_of.Goals as goal

-- a card of the code as a line states it
abbrev card_of : Card → Stated
card_of card = record { id = card.id; epoch = card.epoch; shares = values card.shares.now }

pub loop-card-init : goal.loop-card-init
loop-card-init g c =
    let m = g.F.Field in
    let tokens = c.args.tokens.now in
    let begins = open_begins m.finite.size tokens c.requires.stand in
    let face = face_of m.ops m.finite m.points in
    record {
      named = c.requires.named;
      begins = begins.0;
      stand = begins.1;
      so_far = ap (λ l. faces l ++ map face (map stated (cards tokens))) c.new-all.ensures.items;
    }

pub split_shares-requires : goal.split_shares-requires
split_shares-requires g c =
    let m = g.F.Field in
    let loop = c.loop-card in
    let within = card_within m.ops m.finite m.points loop.left.now loop.elements.now loop.invariant.named (card_of c.in-Some.card) c.in-Some.rest.now c.in-Some.ensures in
    omega (arith, length-map c.in-Some.card.shares.now value)

pub loop-card-preserved : goal.loop-card-preserved
loop-card-preserved g c =
    let m = g.F.Field in
    let left = c.loop-card.left.now in
    let xs = c.loop-card.elements.now in
    let inv = c.loop-card.invariant in
    let rest = c.in-Some.rest.now in
    let card = card_of c.in-Some.card in
    let found = c.in-Some.ensures in
    let walk = walk_more m.finite.size left inv.begins inv.stand card rest found in
    let long = length-map c.in-Some.card.shares.now value in
    let shares : c.split_shares.result.0.now ≡ elements m.ops m.finite card.shares =
    c.split_shares.ensures.shares
    ∙ ap (λ n. take n (drop 3 xs)) (sym long)
    ∙ card_shares m.ops m.finite m.points left xs inv.named card rest found in
    record {
      named =
          c.split_shares.ensures.left
          ∙ ap (λ n. drop n (drop 3 xs)) (sym long)
          ∙ card_left m.ops m.finite m.points left xs inv.named card rest found;
      begins = walk.0;
      stand = walk.1;
      so_far =
          cards_more m.ops m.finite m.points left xs inv.named card rest found
          (vec_items c.loop-card.all) (vec_items c.push.new.self) _ _
          c.in_ok-push.ensures.items (ap (λ s. record { id = card.id; epoch = card.epoch; shares = s }) shares) walk.3 inv.so_far;
    }
