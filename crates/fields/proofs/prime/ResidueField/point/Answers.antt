use Rattle.std.proofs.Common.{◌<◌, sym, mod-eq_of_lt, arith}
use Rattle.fields.specs.ResidueLaws.{residue_≡}
use Rattle.fields.proofs.prime.ResidueField.point.Goals as goal

pub returns : goal.returns
returns g c =
    let small : c.args.id < g.row.P = omega arith in
    (omega arith, omega arith, residue_≡ (sym (mod-eq_of_lt small)))
