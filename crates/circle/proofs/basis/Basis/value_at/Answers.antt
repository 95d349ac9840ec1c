use Rattle.std.proofs.Common.{◌≡◌, ◌+◌, map, take, drop, length, sym, ap, ◌∙◌, arith}
use Rattle.std.proofs.lemmas.List.{at_drop_all, get_or_read, length-map}
use Rattle.std.proofs.lemmas.Bool.{eqb-true}
use Rattle.circle.specs.Lagrange.{constant_in}
use Rattle.circle.specs.Open.{face, faces, as_long, share_at, column}
use Rattle.circle.specs.OpenParts.{ids_of}
use Rattle.circle.proofs.Tests.{each_read}
use Rattle.circle.proofs.basis.Sets.{combine_more, sum_more, id_read}
use Rattle.circle.proofs.open.Cards.{face_within, face_read}
use Rattle.circle.proofs.polynomial.ConstantLaws.{interpolated_combine}
use Rattle.circle.proofs.polynomial.Lagrange.{combine}
use Rattle.circle.proofs.basis.Basis.value_at.Goals as goal

pub bounds-card-p : goal.bounds-card-p
bounds-card-p g c =
    let cards = c.args.self.now.cards.now in
    let i = c.loop-i.i in
    let card = c.card-item.result in
    let within = c.loop-i-test.true in
    let places = c.args.self.now.places in
    let long = each_read (as_long places) (faces cards) i (face card) c.args.self.now.fixing.long (face_within cards i within) (face_read cards i within card c.card-item.is) in
    omega (arith, c.requires, eqb-true (length card.shares.now) places long)

pub loop-i-preserved : goal.loop-i-preserved
loop-i-preserved g c = λ z fits.
    let F = g.F.Field.ops in
    let m = g.F.Field.points in
    let fixing = c.args.self.now.fixing in
    let cards = c.args.self.now.cards.now in
    let cs = faces cards in
    let i = c.loop-i.i in
    let p = c.args.p in
    let card = c.card-item.result in
    let within = c.loop-i-test.true in
    let places = c.args.self.now.places in
    let read = face_read cards i within card c.card-item.is in
    let long = eqb-true (length card.shares.now) places (each_read (as_long places) cs i (face card) fixing.long (face_within cards i within) read) in
    let share = get_or_read card.shares.now p c.index-card-p.result (omega (arith, c.requires, long)) c.index-card-p.is F.zero in
    let constant : c.get.result ≡ constant_in F m.at c.args.self.now.set card.id z =
    c.get.ensures
    ∙ fits i (omega (arith, within, length-map cs (λ x. x.id), length-map cards (λ x. face x)))
    ∙ ap (λ h. constant_in F m.at c.args.self.now.set h z) (sym (id_read cards i within card c.card-item.is)) in
    let is = constant ∙ ap (λ s. constant_in F m.at s card.id z) fixing.is in
    let step = combine_more g.F.Field.laws m z cs i p (face card) (face_within cards i within) read fixing.known fixing.differ in
    let term : c.mul.result ≡ F.mul c.get.result (share_at F p (face card)) =
    g.met.F.Field.mul_is _ _ _ c.mul.ensures ∙ ap (F.mul c.get.result) (sym c.index-card-p.is ∙ share) in
    sum_more g.F.Field.laws.ring c.loop-i.sum _ (F.mul c.get.result (share_at F p (face card))) _ _ _
    (g.met.F.Field.add_is _ _ _ c.add-sum.ensures ∙ ap (F.add c.loop-i.sum) term)
    (step ∙ ap (λ w. F.add (F.mul w (share_at F p (face card))) (combine F (map m.at (ids_of (take (i + 1) cs))) (column F m.at p (drop (i + 1) cs)) z)) (sym is))
    (c.loop-i.invariant z fits)

pub returns : goal.returns
returns g c = λ z fits.
    let F = g.F.Field.ops in
    let m = g.F.Field.points in
    let cards = c.args.self.now.cards.now in
    let cs = faces cards in
    let i = c.loop-i.i in
    let sum = c.loop-i.sum in
    let none = at_drop_all (λ r. combine F (map m.at (ids_of (take i cs))) (column F m.at c.args.p r) z) cs i (omega (arith, length-map cards (λ x. face x))) in
    sym (g.F.Field.laws.ring.add-zero sum)
    ∙ ap (F.add sum) (sym none)
    ∙ c.loop-i.invariant z fits
    ∙ sym (interpolated_combine F z (column F m.at c.args.p cs))
