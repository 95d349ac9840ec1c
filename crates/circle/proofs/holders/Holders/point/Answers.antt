use Rattle.std.proofs.Common.{◌≡◌, ℕ, ◌≤◌, true, false, Some, None, Option, MatchOption, sym, arith}
use Rattle.fields.specs.Field.{Ops, Points}
use Rattle.circle.specs.Ids.{member, within_largest}
use Rattle.circle.proofs.ids.Laws.{on_member, within_known}
use Rattle.circle.proofs.holders.Holders.point.Goals as goal

-- the point of a member, as the field gives it
member_point : {K : Type 0} {F : Ops K} (m : Points F) (set h : ℕ) (o : Option K) → within_largest set m.largest ≡ true → member set h ≡ true
    → MatchOption o (1 ≤ h → h ≤ m.largest → ⊥) (λ x. (1 ≤ h) × (h ≤ m.largest) × (x ≡ m.at h))
    → MatchOption o (member set h ≡ false) (λ x. (member set h ≡ true) × (h ≤ 32) × (x ≡ m.at h))
member_point m set h (Some x) known on given = (on, omega (arith, m.few, given.1), given.2)
member_point m set h None known on given = absurd (given (on_member set h on).0 (within_known set m.largest h known on))

pub returns-then-contains : goal.returns-then-contains
returns-then-contains g c =
    let holders = c.args.self.now in
    member_point g.F.Field.points holders.set c.args.h c.point.result holders.known (sym c.if-contains.ensures) c.point.ensures
