-- What is chosen for a modulus, and what the field of its residues has by it. Assumes nothing.
use Rattle.std.specs.Prelude.{◌≡◌, ℕ, ◌-◌, ◌%◌, ◌<◌, ◌≤◌, Bool, true, ◌&&◌, nat_le, nat_lt, refl}
use Rattle.std.proofs.Common.{sym, ap, ◌∙◌, arith}
use Rattle.std.proofs.Math.Nat as nat
use Rattle.std.proofs.lemmas.Bool.{and_parts, leb-true, ltb-true}
use Rattle.fields.specs.Field.{Ops, Points, Forms, Finite}
use Rattle.fields.specs.Residue.{residue, operations, Width, single, double, count, span, form}
use Rattle.fields.specs.ResidueLaws.{Prime, inverts, residue_≡, form_length, form_small, form_apart, count_some, count_few}
use Rattle.fields.specs.declared.residue.Residue.{Residue}

-- The largest id, the byte that names the field, and the bytes of an element.
pub record Chosen (p : ℕ) : Type 0 where
  pub prime : Prime p
  pub largest : ℕ
  pub mark : ℕ
  pub width : Width
  pub some : 1 ≤ largest
  pub few : largest ≤ 32
  pub below : largest < p
  pub room : p ≤ span width
  pub fits : p ≤ 65536

-- all that is asked of a choice, as one test that is computed: the power p - 2 inverts each residue, and the bounds hold
abbrev pub stands : (p largest : ℕ) → Width → Bool
stands p largest width =
    (nat_lt 1 p && inverts p (p - 1)) && ((nat_le 1 largest && nat_le largest 32) && (nat_lt largest p && (nat_le p (span width) && nat_le p 65536)))

abbrev pub choose : (p largest mark : ℕ) (width : Width) → stands p largest width ≡ true → Chosen p
choose p largest mark width tested =
    let parts = and_parts (nat_lt 1 p && inverts p (p - 1)) ((nat_le 1 largest && nat_le largest 32) && (nat_lt largest p && (nat_le p (span width) && nat_le p 65536))) tested in
    let prime = and_parts (nat_lt 1 p) (inverts p (p - 1)) parts.0 in
    let bounds = and_parts (nat_le 1 largest && nat_le largest 32) (nat_lt largest p && (nat_le p (span width) && nat_le p 65536)) parts.1 in
    let ids = and_parts (nat_le 1 largest) (nat_le largest 32) bounds.0 in
    let sizes = and_parts (nat_lt largest p) (nat_le p (span width) && nat_le p 65536) bounds.1 in
    let spans = and_parts (nat_le p (span width)) (nat_le p 65536) sizes.1 in
    record {
      prime = record { big = ltb-true 1 p prime.0; tested = prime.1 };
      largest = largest;
      mark = mark;
      width = width;
      some = leb-true 1 largest ids.0;
      few = leb-true largest 32 ids.1;
      below = ltb-true largest p sizes.0;
      room = leb-true p (span width) spans.0;
      fits = leb-true p 65536 spans.1;
    }

abbrev pub chosen_13 : Chosen 13
chosen_13 = choose 13 12 1 single refl

abbrev pub chosen_41 : Chosen 41
chosen_41 = choose 41 32 2 single refl

abbrev pub chosen_257 : Chosen 257
chosen_257 = choose 257 32 3 double refl

module _ (p : ℕ) (c : Chosen p) where
  abbrev pub prime_ops : Ops (Residue p)
  prime_ops = operations p c.prime.big

  pub positive : 0 < p
  positive = omega (arith, c.below)

  -- the point of the id h is h modulo p
  abbrev pub prime_points : Points prime_ops
  prime_points = record {
    largest = c.largest;
    at = residue p positive;
    some = c.some;
    few = c.few;
    not-zero = λ i pos le e.
        let z : i % p ≡ 0 = ap (λ x. x.value) e in
        let k : i % p ≡ i = nat.mod-eq_of_lt (omega (arith, c.below)) in
        omega arith;
    apart = λ i j _ le _ le' e.
        let z : i % p ≡ j % p = ap (λ x. x.value) e in
        let k : i % p ≡ i = nat.mod-eq_of_lt (omega (arith, c.below)) in
        let l : j % p ≡ j = nat.mod-eq_of_lt (omega (arith, c.below)) in
        sym k ∙ z ∙ l;
  }

  abbrev pub prime_forms : Forms (Residue p)
  prime_forms = record {
    mark = c.mark;
    width = count c.width;
    bytes = λ x. form c.width x.value;
    some = count_some c.width;
    few = count_few c.width;
    wide = λ x. form_length c.width x.value;
    small = λ x. form_small c.width x.value (omega (arith, x.ok, c.room));
    apart = λ x y e. residue_≡ (form_apart c.width x.value y.value e);
  }

  abbrev pub prime_finite : Finite (Residue p)
  prime_finite = record {
    size = p;
    number = λ x. x.value;
    element = λ n h. record { value = n; ok = h };
    few = omega (arith, c.fits);
    below = λ x. x.ok;
    numbered = λ n h. refl;
    apart = λ x y e. residue_≡ e;
  }
