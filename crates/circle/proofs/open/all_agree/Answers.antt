use Rattle.std.proofs.Common.{◌≡◌, true, sym, ◌∙◌, rules, tests}
use Rattle.std.proofs.lemmas.List.Folds.{list_all-map}
use Rattle.std.proofs.lemmas.Iterator.{YieldsList-from_slice}
use Rattle.std.proofs.lemmas.Iterator.Adapters.{serves_from_places}
use Rattle.std.proofs.lemmas.Iterator.Search.{all_from_yields_List}
use Rattle.circle.specs.Open.{face, faces, id_known, as_long, lies}
use Rattle.circle.proofs.Tests.{each_read}
use Rattle.circle.proofs.open.Cards.{face_within, face_read}
use Rattle.circle.proofs.open.all_agree.Goals as goal

pub all-requires-clause-callable : goal.all-requires-clause-callable
all-requires-clause-callable g c =
    let cards = c.args.cards.now in
    serves_from_places (YieldsList-from_slice cards (cc)) (λ x q k. search rules)
    (λ x k less read.
    let within = face_within cards k less in
    let is = face_read cards k less x.now read in
    let own : id_known g.F.Field.points.largest (face x.now) ≡ true = each_read (id_known g.F.Field.points.largest) (faces cards) k (face x.now) c.requires.own within is in
    let long : as_long c.args.basis.now.places (face x.now) ≡ true = each_read (as_long c.args.basis.now.places) (faces cards) k (face x.now) c.requires.long within is in
    search rules)

pub returns : goal.returns
returns g c =
    let m = g.F.Field in
    let basis = c.args.basis.now in
    let test = lies m.ops m.points.at m.equality.same basis.places (faces basis.cards.now) in
    all_from_yields_List (λ x. test (face x)) _ _ _ c.all.ensures.ran (YieldsList-from_slice c.args.cards.now (cc)) (λ x b q k. search (rules, tests))
    ∙ sym (list_all-map test face c.args.cards.now)
