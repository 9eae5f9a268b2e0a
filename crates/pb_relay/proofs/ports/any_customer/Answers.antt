use Rattle.std.proofs.Common.{◌<◌, length, sym, ap, ◌∙◌, arith}
use Rattle.pb_relay.specs.Kinds.{is_to_customer, is_customer_told}
use Rattle.pb_relay.specs.PortKinds.{locals}
use Rattle.pb_relay.proofs.PortKindLemmas.{any_there, any_later, any_none, locals-length}
use Rattle.pb_relay.proofs.ports.any_customer.Goals as goal

pub returns-then-is_customer : goal.returns-then-is_customer
returns-then-is_customer c =
    let few : c.loop-place.place < length (locals c.args.services.now c.args.starts.now) =
    omega (arith, locals-length c.args.services.now c.args.starts.now) in
    any_there is_to_customer (locals c.args.services.now c.args.starts.now) c.loop-place.place few
    c.loop-place.invariant
    (sym (ap is_customer_told c.local_at.ensures) ∙ sym c.is_customer.ensures ∙ c.if-is_customer.true)

pub loop-place-preserved : goal.loop-place-preserved
loop-place-preserved c =
    let few : c.loop-place.place < length (locals c.args.services.now c.args.starts.now) =
    omega (arith, locals-length c.args.services.now c.args.starts.now) in
    any_later is_to_customer (locals c.args.services.now c.args.starts.now) c.loop-place.place few
    c.loop-place.invariant
    (sym (ap is_customer_told c.local_at.ensures) ∙ sym c.is_customer.ensures ∙ c.if-is_customer.false)

pub returns : goal.returns
returns c =
    any_none is_to_customer (locals c.args.services.now c.args.starts.now) c.loop-place.place
    (omega (arith, locals-length c.args.services.now c.args.starts.now)) c.loop-place.invariant
