use Rattle.std.proofs.Common.{◌≡◌, rules}
use Rattle.std.proofs.lemmas.Fn.{fold_same}
use Rattle.circle.specs.Polynomial.{sum}
use Rattle.circle.proofs.polynomial.Sums.{sum_push}
use Rattle.circle.proofs.table.sum.Goals as goal

pub returns : goal.returns
returns g c =
    let m = g.F.Field in
    let ran = c.fold.ensures.ran in (
      ran.0,
      ran.2,
      fold_same _ (λ ys total. total ≡ sum m.ops ys) _
          (λ ys total x more f so_far call. let pushed = sum_push m.laws.ring ys x in search rules) ran.0 c.zero.result c.fold.result ran.1
          c.zero.ensures ran.3,
    )
