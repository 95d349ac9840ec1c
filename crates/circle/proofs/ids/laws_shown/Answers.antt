use Rattle.std.proofs.Common.{refl}
use Rattle.circle.proofs.ids.Laws as law
use Rattle.circle.proofs.ids.laws_shown.Goals as goal

pub returns : goal.returns
returns c =
    record {
      member_inserted = law.member_inserted;
      member_removed = law.member_removed;
      size_inserted = law.size_inserted;
      size_removed = law.size_removed;
      inserted_fits = law.inserted_fits;
      removed_fits = law.removed_fits;
      member_id = law.member_id;
      set_≡ = law.set_≡;
      in_members = law.in_members;
      members_in = law.members_in;
      members_ascend = law.members_ascend;
      members_distinct = law.members_distinct;
      members_size = law.members_size;
      member_rank = law.member_rank;
      rank_below = law.rank_below;
      visited = λ set left xs y. law.visited (λ s. s) set set left xs refl y;
      subset_decides = law.subset_decides;
      within_known = law.within_known;
      known_within = law.known_within;
    }
