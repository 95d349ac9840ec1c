use Rattle.std.proofs.Common.{◌≡◌, ℕ, ◌<◌, length, get_or, set, ap, ◌∙◌, arith, length-set}
use Rattle.std.specs.List.{list_all}
use Rattle.std.proofs.lemmas.List.{length-map}
use Rattle.std.proofs.lemmas.List.Edits.{fill_by_more}
use Rattle.circle.specs.Ids.{has_point, member, members}
use Rattle.circle.specs.Lagrange.{constant_in}
use Rattle.circle.specs.Open.{face, faces}
use Rattle.circle.specs.OpenParts.{ids_of}
use Rattle.circle.proofs.basis.Sets.{set_points, own_member, id_at, id_read}
use Rattle.circle.proofs.basis.Basis.constants.Goals as goal

pub constant_in-requires-clause-known : goal.constant_in-requires-clause-known
constant_in-requires-clause-known g c =
    let m = g.F.Field.points in
    let fixing = c.args.self.now.fixing in
    ap (λ s. list_all (has_point m.largest) (members s)) fixing.is ∙ set_points m.largest m.few (faces c.args.self.now.cards.now) fixing.known

pub constant_in-requires-clause-own : goal.constant_in-requires-clause-own
constant_in-requires-clause-own g c =
    let m = g.F.Field.points in
    let fixing = c.args.self.now.fixing in
    let cards = c.args.self.now.cards.now in
    let id = c.card-item.result.id in
    ap (λ s. member s id) fixing.is
    ∙ own_member m.largest m.few (faces cards) fixing.known id (id_at cards c.loop-i.i c.loop-i-test.true c.card-item.result c.card-item.is)

pub loop-i-preserved : goal.loop-i-preserved
loop-i-preserved g c =
    let m = g.F.Field in
    let cards = c.args.self.now.cards.now in
    let row = c.loop-i.row in
    let i = c.loop-i.i in
    let at-id : ℕ → g.row.F.Denot = λ h. constant_in m.ops m.points.at c.args.self.now.set h c.args.z in
    let f : ℕ → g.row.F.Denot = λ k. at-id (get_or (ids_of (faces cards)) k 0) in
    let now : c.put.new.row ≡ set row i (f i) =
    c.put.ensures
    ∙ ap (λ v. set row i v) (c.constant_in.ensures ∙ ap at-id (id_read cards i c.loop-i-test.true c.card-item.result c.card-item.is)) in
    let within : i < length row = omega (arith, c.args.self.now.fixing.most, length-map cards (λ x. face x), c.loop-i.invariant.0) in (
      ap length now ∙ length-set row i (f i) ∙ c.loop-i.invariant.0,
      λ k less. ap (λ ws. get_or ws k m.ops.zero) now ∙ fill_by_more f row i m.ops.zero within c.loop-i.invariant.1 k less,
    )
