use Rattle.std.proofs.Common.{◌≡◌, ℕ, Option, length, ap, subst, rules}
use Rattle.std.proofs.lemmas.Iterator.{YieldsList, YieldsList-from_map}
use Rattle.std.proofs.lemmas.Iterator.Adapters.{serves_from_places}
use Rattle.std.proofs.lemmas.Iterator.Consumers.{YieldsList-from_shown, YieldsList-at}
use Rattle.circle.specs.Ids.{Stepped, is_id, members}
use Rattle.circle.specs.Table.{entry}
use Rattle.circle.specs.declared.ids.Iter.{Iter}
use Rattle.circle.proofs.Tests.{each_read}
use Rattle.circle.proofs.ids.Laws.{id_bounds, members_ids}
use Rattle.circle.proofs.table.Totals.{sum_yielded}
use Rattle.circle.proofs.round.finish.total.Goals as goal

abbrev steps : Iter → Option ℕ → Iter → Type 0
steps s r t = Stepped s.rest r t.rest

-- a walk through a set gives its members
members_yield : (walk : Iter) (set : ℕ) → walk.rest ≡ set → YieldsList steps (λ h. h) walk (members set)
members_yield walk set whole =
    subst (λ s. YieldsList steps (λ h. h) walk (members s)) whole
    (YieldsList-from_shown steps (λ h. h) (λ s. members s.rest) (λ s t none. ap length none) (λ s h t more. more) walk)

pub sum-requires-clause-can : goal.sum-requires-clause-can
sum-requires-clause-can g c =
    let set = c.args.set in
    let walk = YieldsList-at c.map.ensures.source (members_yield c.members.result set c.members.ensures.rest) in (
      tt,
      serves_from_places walk (λ h q call. search rules)
          (λ h k less at. let id = id_bounds h (each_read is_id (members set) k h (members_ids set) less at) in search rules),
    )

pub returns : goal.returns
returns g c =
    let F = g.F.Field.ops in
    let held = entry F.zero c.args.tally.now c.args.p in
    let walk = YieldsList-at c.map.ensures.source (members_yield c.members.result c.args.set c.members.ensures.rest) in
    sum_yielded F c.sum.result c.sum.ensures (YieldsList-from_map _ held walk c.map.ensures.closure (λ h r q call. search rules))
