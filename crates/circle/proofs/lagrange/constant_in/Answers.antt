use Rattle.std.proofs.Common.{◌≡◌, map, sym, ap, ◌∙◌, arith}
use Rattle.circle.specs.Ids.{members}
use Rattle.circle.specs.LagrangeParts.{gaps}
use Rattle.circle.proofs.lagrange.Sets.{own_point, constant_quotient}
use Rattle.circle.proofs.lagrange.constant_in.Goals as goal

pub quotient-requires : goal.quotient-requires
quotient-requires g c e =
    let m = g.F.Field in
    let own = own_point c.args.set c.args.id m.points.largest (omega arith) c.requires.known c.requires.own in
    let by = constant_quotient c.args.set c.args.id m.laws m.points c.args.z own c.requires.known in
    let same : c.gaps-2.result ≡ gaps m.ops (map m.points.at (members c.remove-others.result)) (m.points.at c.args.id) = cc in
    by.0 (ap (λ s. gaps m.ops (map m.points.at (members s)) (m.points.at c.args.id)) (sym c.remove-others.ensures) ∙ sym same ∙ e)

pub returns : goal.returns
returns g c =
    let m = g.F.Field in
    let own = own_point c.args.set c.args.id m.points.largest (omega arith) c.requires.known c.requires.own in
    let by = (constant_quotient c.args.set c.args.id m.laws m.points c.args.z own c.requires.known).1 in
    cc
