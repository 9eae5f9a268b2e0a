use Rattle.std.proofs.Common.{◌<◌, length, sym, ap, ◌∙◌, arith}
use Rattle.pb_relay.specs.Kinds.{is_to_bridge, is_bridge_told}
use Rattle.pb_relay.specs.PortKinds.{locals}
use Rattle.pb_relay.proofs.PortKindLemmas.{any_there, any_later, any_none, locals-length}
use Rattle.pb_relay.proofs.ports.any_bridge.Goals as goal

pub returns-then-is_bridge : goal.returns-then-is_bridge
returns-then-is_bridge c =
    let few : c.loop-place.place < length (locals c.args.services.now c.args.starts.now) =
    omega (arith, locals-length c.args.services.now c.args.starts.now) in
    any_there is_to_bridge (locals c.args.services.now c.args.starts.now) c.loop-place.place few c.loop-place.invariant
    (sym (ap is_bridge_told c.local_at.ensures) ∙ sym c.is_bridge.ensures ∙ c.if-is_bridge.true)

pub loop-place-preserved : goal.loop-place-preserved
loop-place-preserved c =
    let few : c.loop-place.place < length (locals c.args.services.now c.args.starts.now) =
    omega (arith, locals-length c.args.services.now c.args.starts.now) in
    any_later is_to_bridge (locals c.args.services.now c.args.starts.now) c.loop-place.place few c.loop-place.invariant
    (sym (ap is_bridge_told c.local_at.ensures) ∙ sym c.is_bridge.ensures ∙ c.if-is_bridge.false)

pub returns : goal.returns
returns c =
    any_none is_to_bridge (locals c.args.services.now c.args.starts.now) c.loop-place.place
    (omega (arith, locals-length c.args.services.now c.args.starts.now)) c.loop-place.invariant
