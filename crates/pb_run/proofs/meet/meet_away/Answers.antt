use Rattle.std.proofs.Common.{◌+◌, ◌-◌, sym, ap, ◌∙◌, arith}
use Rattle.std.proofs.lemmas.List.{length-map}
use Rattle.pb_lan.specs.LaneLists.{taken}
use Rattle.pb_lan.specs.Records.{transmitted}
use Rattle.pb_workers.specs.declared.gift.LaneGift.{LaneGift}
use Rattle.pb_run.proofs.Lists.{thing_is, both_kept_at}
use Rattle.pb_run.proofs.Meeting.{bridge_here, bridge_rings, gift_is, begins_there}
use Rattle.pb_run.proofs.meet.meet_away.Goals as goal

pub meet_lane_away-requires-clause-port : goal.meet_lane_away-requires-clause-port
meet_lane_away-requires-clause-port g c =
    let end = c.requires.end in
    let rings = bridge_rings _ _ c.args.bridges.now.items c.args.from.now.bridge c.args.from.now.port _ _
    c.requires.bridges end.bridge end.port c.index_of.ensures c.index_mut-bridge.ensures.value in (
      omega (arith, end.port.0),
      omega
          (arith, end.port.1, rings.2, length-map c.index_mut-bridge.result.now.ins.ends.items (λ i. i.number)),
    )

pub meet_lane_away-requires-clause-ring : goal.meet_lane_away-requires-clause-ring
meet_lane_away-requires-clause-ring g c =
    let end = c.requires.end in
    let rings = bridge_rings _ _ c.args.bridges.now.items c.args.from.now.bridge c.args.from.now.port _ _
    c.requires.bridges end.bridge end.port c.index_of.ensures c.index_mut-bridge.ensures.value in
    let gift = gift_is _ c.args.lanes.now.items c.args.place c.index_mut.result.now _ c.requires.lane.3
    c.index_mut.ensures.value in
    rings.1 ∙ sym (ap (λ (z : LaneGift). z.from) gift)

pub returns-clause-bridges : goal.returns-clause-bridges
returns-clause-bridges g c = both_kept_at _ _ _ _ _ c.index_mut-bridge.result.now c.index_mut-bridge.ensures.value
    (cc) (cc)

pub returns-clause-lanes : goal.returns-clause-lanes
returns-clause-lanes g c = both_kept_at _ _ _ _ _ c.index_mut.result.now c.index_mut.ensures.value (cc) (cc)

pub returns-clause-onto : goal.returns-clause-onto
returns-clause-onto g c =
    let end = c.requires.end in
    let lane = thing_is _ c.args.lanes.now.items c.args.place _ c.index_mut.result.now c.requires.lane.3
    c.index_mut.ensures.value in
    let bridge = bridge_here _ _ c.args.bridges.now.items c.args.from.now.bridge _ _ c.requires.bridges end.bridge
    c.index_of.ensures c.index_mut-bridge.ensures.value in
    begins_there taken (transmitted c.args.from.now.port) _ _ c.args.lanes.now.items c.args.bridges.now.items
    c.args.place c.index_of.result
    (c.args.place + 1) c.args.from.now.bridge c.index_mut.result.now c.index_mut-bridge.result.now lane bridge
    (omega arith)
    (omega (arith, c.index_of.ensures, end.bridge.0)) c.meet_lane_away.ensures.onto
