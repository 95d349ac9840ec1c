-- The share after a round depends on the share before it of the same id alone. Assumes nothing.
use Rattle.std.proofs.Common.{◌≡◌, ℕ, cond, eqb, map, refl, ap}
use Rattle.fields.specs.Field.{Ops}
use Rattle.circle.specs.Ids.{members}
use Rattle.circle.specs.Polynomial.{sum}
use Rattle.circle.specs.declared.kind.Kind.{Kind}
use Rattle.circle.specs.declared.kind.Kind.TheVariants.{Refresh, Dismissal, Change, Admission}
use Rattle.circle.specs.Finish.{share_after}

module _ {K : Type 0} (F : Ops K) (at : ℕ → K) where
  pub share_after_at : (k : Kind) (share other tally : ℕ → K) (h : ℕ) → share h ≡ other h
      → share_after F at k share tally h ≡ share_after F at k other tally h
  share_after_at Refresh share other tally h e = ap (λ s. F.add s (F.mul (at h) (tally h))) e
  share_after_at (Dismissal leaver) share other tally h e = ap (λ s. F.add s (F.mul (at h) (tally h))) e
  share_after_at (Change threshold helpers) share other tally h e = refl
  share_after_at (Admission newcomer helpers) share other tally h e = ap (cond (eqb h newcomer) (sum F (map tally (members helpers)))) e
