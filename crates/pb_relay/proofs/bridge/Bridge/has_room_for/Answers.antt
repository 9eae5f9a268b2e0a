use Rattle.std.proofs.Common.{◌≡◌, cond, None, sym, ap, ◌∙◌}
use Rattle.pb_fdb.specs.Tables.{where_in as place_in}
use Rattle.pb_frame.specs.Frames.{dst_of, is_group}
use Rattle.pb_lan.specs.BridgeLists.{ruling}
use Rattle.pb_lan.specs.BridgeLists.Ruling.{Carries}
use Rattle.pb_relay.proofs.RoomLemmas.{room_is}
use Rattle.pb_relay.specs.Protocol.{spanning_tree}
use Rattle.pb_relay.specs.Room.{has_room_for}
use Rattle.pb_relay.specs.Standing.{BridgeView}
use Rattle.pb_relay.specs.Verdicts.{as_ruling}
use Rattle.pb_relay.proofs.bridge.Bridge.has_room_for.Goals as goal

pub returns : goal.returns
returns c =
    let s = c.self.inside in
    let rules : ruling spanning_tree s.plan s.number s.steps.steps c.args.port c.args.item.now ≡ Carries c.in-Carry.vid =
    ap (λ (v : BridgeView). ruling spanning_tree v.plan v.number v.steps c.args.port c.args.item.now) c.self.view_is
    ∙ sym c.rule.ensures ∙ ap as_ruling c.in-Carry.is in
    let at = c.sought-at.ensures
    ∙ ap (λ w. cond (is_group (dst_of w)) None (place_in s.forwarding.table s.clock c.in-Carry.vid (dst_of w)))
    c.as_slice.ensures in
    c.have_room.ensures
    ∙ room_is s c.args.port c.in-Carry.vid c.args.queue c.args.item.now c.sought-at.result c.choose-chosen.result
    c.self.invariant rules at c.choose-chosen.ensures.chosen
    ∙ ap (λ (v : BridgeView). has_room_for v.plan v.number v.steps c.args.queue c.args.port c.args.item.now)
    c.self.view_is
