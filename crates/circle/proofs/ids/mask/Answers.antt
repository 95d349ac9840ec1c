use Rattle.std.proofs.Common.{◌≡◌, ◌-◌, ◌*◌, ◌%◌, ◌^◌, not, eqb, sym, ap, ◌∙◌, mod-eq_of_lt, arith}
use lib.Bits.{bit_and, bit_or, and_zero_r, or_zero_r, and_mask}
use Rattle.std.proofs.lemmas.Nat.{one_shl}
use Rattle.circle.proofs.ids.Laws.{id_bounds, member_none, inserted_none, removed_none}
use Rattle.circle.proofs.ids.Masks.{member_mask, inserted_mask, removed_mask}
use Rattle.circle.proofs.ids.mask.Goals as goal

pub returns-then-is_id : goal.returns-then-is_id
returns-then-is_id c =
    let h = c.args.id in
    let id = sym c.if-is_id.ensures in
    let b = id_bounds h id in
    let one : (1 * 2 ^ (h - 1)) % 2 ^ 32 ≡ 2 ^ (h - 1) = one_shl (h - 1) 32 (omega arith) in
    record {
      tests = λ set fits. ap (λ m. not (eqb (bit_and set m) 0)) one ∙ member_mask set h b.0;
      inserts = λ set. ap (bit_or set) one ∙ inserted_mask set h id;
      removes = λ set fits. ap (λ m. bit_and set (2 ^ 32 - 1 - m)) one ∙ removed_mask set h fits id;
    }

pub returns-else-is_id : goal.returns-else-is_id
returns-else-is_id c =
    let h = c.args.id in
    let none = sym c.if-is_id.ensures in
    record {
      tests = λ set fits. ap (λ m. not (eqb m 0)) (and_zero_r set) ∙ sym (member_none set h fits none);
      inserts = λ set. or_zero_r set ∙ sym (inserted_none set h none);
      removes = λ set fits. and_mask set 32 ∙ mod-eq_of_lt fits ∙ sym (removed_none set h (member_none set h fits none));
    }
