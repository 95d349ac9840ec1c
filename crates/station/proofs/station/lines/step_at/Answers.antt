use Rattle.station.proofs.desk.Replies.{done_reply, failed_exit, replied}
use Rattle.station.proofs.station.lines.step_at.Goals as goal

pub returns-in_err-perform-in_default-clause-said : goal.returns-in_err-perform-in_default-clause-said
returns-in_err-perform-in_default-clause-said g c =
    let m = g.F.Field in
    rw (replied m.ops m.finite m.points m.equality.same _ c.args.step c.in_default.not-Show c.in_default.not-Open) (
    failed_exit _ _ _ c.from_residual.ensures.1 c.in_err-perform-in_default.ensures.answer
    )

pub returns-in_ok-standing-in_default-clause-said : goal.returns-in_ok-standing-in_default-clause-said
returns-in_ok-standing-in_default-clause-said g c =
    let m = g.F.Field in
    let done = c.in_ok-perform-in_default.ensures in
    rw (replied m.ops m.finite m.points m.equality.same _ c.args.step c.in_default.not-Show c.in_default.not-Open) (
    done_reply _ _ _ _ done.answer done.kept c.in_ok-standing-in_default.ensures
    )
