use Rattle.std.proofs.Common.{◌≡◌, ◌-◌}
use Rattle.std.specs.List.{range_with_len, list_all}
use Rattle.circle.specs.Open.{face, faces, lies_at, lies}
use Rattle.circle.proofs.basis.Basis.agrees.Given as goal

abbrev pub invariant-loop-p : goal.invariant-loop-p
invariant-loop-p g l =
    let m = g.F.Field in
    let test = lies_at m.ops m.points.at m.equality.same (faces l.self.cards.now) (face l.card) in
    list_all test (range_with_len l.p (l.self.places - l.p)) ≡ list_all test (range_with_len 0 l.self.places)
