use Rattle.std.proofs.Common.{◌≡◌, ◌<◌, length, sym, ap, ap₂, ◌∙◌, arith}
use Rattle.std.proofs.lemmas.List.{get_or_read}
use Rattle.std.proofs.lemmas.Bool.{eqb-true}
use Rattle.circle.specs.Open.{face, faces, column, share_at, lies_at}
use Rattle.circle.specs.Polynomial.{interpolated}
use Rattle.circle.proofs.Tests.{count_fails, count_goes_on}
use Rattle.circle.proofs.basis.Basis.agrees.Goals as goal

pub returns-then-not-same : goal.returns-then-not-same
returns-then-not-same g c =
    let m = g.F.Field in
    let card = c.args.card.now in
    let cs = faces c.args.self.now.cards.now in
    let places = c.args.self.now.places in
    let p = c.loop-p.p in
    let test = lies_at m.ops m.points.at m.equality.same cs (face card) in
    let long = eqb-true (length card.shares.now) places c.requires.long in
    let within : p < places = omega (arith, c.loop-p-test.true, long) in
    let value : c.value_at.result ≡ interpolated m.ops (column m.ops m.points.at p cs) (m.points.at card.id) =
    c.value_at.ensures c.point_of.result c.constants-constants.ensures ∙ ap (interpolated m.ops (column m.ops m.points.at p cs)) c.point_of.ensures in
    let share = get_or_read card.shares.now p c.share-item.result c.loop-p-test.true c.share-item.is m.ops.zero in
    let tested : c.same.result ≡ test p = c.same.ensures ∙ ap₂ m.equality.same value share in
    count_fails test places p within (sym tested ∙ c.if-not-same.true) c.loop-p.invariant

pub loop-p-preserved : goal.loop-p-preserved
loop-p-preserved g c =
    let m = g.F.Field in
    let card = c.args.card.now in
    let cs = faces c.args.self.now.cards.now in
    let places = c.args.self.now.places in
    let p = c.loop-p.p in
    let test = lies_at m.ops m.points.at m.equality.same cs (face card) in
    let long = eqb-true (length card.shares.now) places c.requires.long in
    let within : p < places = omega (arith, c.loop-p-test.true, long) in
    let value : c.value_at.result ≡ interpolated m.ops (column m.ops m.points.at p cs) (m.points.at card.id) =
    c.value_at.ensures c.point_of.result c.constants-constants.ensures ∙ ap (interpolated m.ops (column m.ops m.points.at p cs)) c.point_of.ensures in
    let share = get_or_read card.shares.now p c.share-item.result c.loop-p-test.true c.share-item.is m.ops.zero in
    let tested : c.same.result ≡ test p = c.same.ensures ∙ ap₂ m.equality.same value share in
    count_goes_on test places p within (sym tested ∙ c.if-not-same.false) c.loop-p.invariant
