-- The kinds of round: who contributes, the circle that a round leads to, and what each kind asks of the circle that it begins with.
-- Assumes nothing.
use Rattle.std.specs.Prelude.{ℕ, ◌+◌, Bool, true, not, ◌&&◌, ◌==◌, nat_le, nat_lt}
use Rattle.circle.specs.Ids.{is_id, member, inserted, removed, size, within_largest, subset, has_point}
use Rattle.circle.specs.declared.kind.Kind.{Kind}
use Rattle.circle.specs.declared.kind.Kind.TheVariants.{Refresh, Dismissal, Change, Admission}

-- ## Who contributes, of those on the roll

abbrev pub contributors : Kind → ℕ → ℕ
contributors Refresh roll = roll
contributors (Dismissal leaver) roll = removed roll leaver
contributors (Change threshold helpers) roll = helpers
contributors (Admission newcomer helpers) roll = helpers

-- ## The circle that the round leads to

abbrev pub roll_after : Kind → ℕ → ℕ
roll_after Refresh roll = roll
roll_after (Dismissal leaver) roll = removed roll leaver
roll_after (Change threshold helpers) roll = roll
roll_after (Admission newcomer helpers) roll = inserted roll newcomer

abbrev pub threshold_after : Kind → ℕ → ℕ
threshold_after Refresh old = old
threshold_after (Dismissal leaver) old = old
threshold_after (Change threshold helpers) old = threshold
threshold_after (Admission newcomer helpers) old = old

-- a round that renews the shares ends the epoch
abbrev pub epoch_after : Kind → ℕ → ℕ
epoch_after Refresh epoch = epoch + 1
epoch_after (Dismissal leaver) epoch = epoch + 1
epoch_after (Change threshold helpers) epoch = epoch + 1
epoch_after (Admission newcomer helpers) epoch = epoch

-- ## What holds of the kind of every round

-- a newcomer is an id
abbrev pub newcomer_is_id : Kind → Bool
newcomer_is_id Refresh = true
newcomer_is_id (Dismissal leaver) = true
newcomer_is_id (Change threshold helpers) = true
newcomer_is_id (Admission newcomer helpers) = is_id newcomer

-- ## What a kind asks

-- every id that is named has a point in the field
abbrev pub ids_known : Kind → ℕ → Bool
ids_known Refresh largest = true
ids_known (Dismissal leaver) largest = has_point largest leaver
ids_known (Change threshold helpers) largest = within_largest helpers largest
ids_known (Admission newcomer helpers) largest = has_point largest newcomer && within_largest helpers largest

-- a new threshold is from 2 to the size of the roll
abbrev pub threshold_fits : Kind → ℕ → Bool
threshold_fits Refresh roll = true
threshold_fits (Dismissal leaver) roll = true
threshold_fits (Change threshold helpers) roll = nat_le 2 threshold && nat_le threshold (size roll)
threshold_fits (Admission newcomer helpers) roll = true

-- the leaver, or every helper, is on the roll
abbrev pub on_roll : Kind → ℕ → Bool
on_roll Refresh roll = true
on_roll (Dismissal leaver) roll = member roll leaver
on_roll (Change threshold helpers) roll = subset helpers roll
on_roll (Admission newcomer helpers) roll = subset helpers roll

-- the newcomer is not on the roll yet
abbrev pub newcomer_new : Kind → ℕ → Bool
newcomer_new Refresh roll = true
newcomer_new (Dismissal leaver) roll = true
newcomer_new (Change threshold helpers) roll = true
newcomer_new (Admission newcomer helpers) roll = not (member roll newcomer)

-- there are as many helpers as the threshold, for a change at least
abbrev pub helpers_enough : Kind → ℕ → Bool
helpers_enough Refresh old = true
helpers_enough (Dismissal leaver) old = true
helpers_enough (Change threshold helpers) old = nat_le old (size helpers)
helpers_enough (Admission newcomer helpers) old = size helpers == old

-- a dismissal leaves as many holders as the threshold
abbrev pub enough_stay : Kind → ℕ → ℕ → Bool
enough_stay Refresh roll old = true
enough_stay (Dismissal leaver) roll old = nat_le old (size (removed roll leaver))
enough_stay (Change threshold helpers) roll old = true
enough_stay (Admission newcomer helpers) roll old = true

-- there is an epoch for the round to lead to: the last is 9,999
abbrev pub epoch_left : Kind → ℕ → Bool
epoch_left Refresh epoch = nat_lt epoch 9999
epoch_left (Dismissal leaver) epoch = nat_lt epoch 9999
epoch_left (Change threshold helpers) epoch = nat_lt epoch 9999
epoch_left (Admission newcomer helpers) epoch = true
