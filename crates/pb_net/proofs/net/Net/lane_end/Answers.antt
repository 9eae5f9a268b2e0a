use Rattle.std.proofs.Common.{arith}
use Rattle.pb_net.proofs.SpotLemmas.{lane_there}
use Rattle.pb_net.proofs.net.Net.lane_end.Goals as goal

pub returns-clause-some : goal.returns-clause-some
returns-clause-some c =
    let place = c.in_ok-place.ensures.some in
    let there = lane_there c.self.inside c.args.lane c.in_ok-place.place c.index-at.result.now c.self.invariant
    c.self.view_is place.0 (omega (arith, place.1)) c.index-at.ensures in
    record { place = place.0; there = there.0; link = there.1.link; planned = there.1.planned; to = there.1.to }
