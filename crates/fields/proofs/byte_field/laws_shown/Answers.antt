use Rattle.std.proofs.Common.{◌≡◌, ℕ, Bool, true, eqb, refl}
use Rattle.std.proofs.lemmas.Bool.{eqb-true}
use Rattle.fields.specs.Byte.{product, remainder, times, xtime}
use Rattle.fields.specs.ByteProducts.{times_lt}
use Rattle.fields.specs.Linear.{below, below_at}
use Rattle.fields.proofs.byte_field.Division.{divided}
use Rattle.fields.proofs.byte_field.laws_shown.Goals as goal

doubled : ℕ → Bool
doubled a = eqb (times a 2) (xtime a)

doubled_all : below 256 doubled ≡ true
unfolding doubled times product remainder
doubled_all = refl

pub returns : goal.returns
unfolding doubled times
returns c = record {
  division = λ a b h k.
      let d = divided 7 (product 8 a b) in
      record { quotient = d.0; short = d.1; divides = d.2; small = times_lt a b h k };
  doubling = λ a h. eqb-true (times a 2) (xtime a) (below_at 256 doubled doubled_all a h);
}
