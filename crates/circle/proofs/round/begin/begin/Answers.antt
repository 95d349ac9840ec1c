use Rattle.circle.proofs.lagrange.Sets.{known_newcomer}
use Rattle.circle.proofs.round.Begins.{among, low, high, last}
use Rattle.circle.proofs.rounds.Granted.{begins}
use Rattle.circle.specs.State.{facts}
use Rattle.circle.proofs.round.begin.begin.Goals as goal

pub invariant_of-round : goal.invariant_of-round
invariant_of-round g c =
    let circle = c.args.circle in
    let kind = c.args.kind in
    let m = g.F.Field.points in
    let asked = (begins m.largest (facts circle) kind _ _ c.in-Ok.ensures).allowed in
    record {
      among = among kind circle.roll asked.on;
      named = known_newcomer kind m.largest m.few asked.known;
      low = low kind circle.roll circle.threshold circle.low asked.fits;
      high = high kind circle.roll circle.threshold circle.high asked.fits asked.stay;
      last = last kind circle.epoch circle.last asked.left;
    }
