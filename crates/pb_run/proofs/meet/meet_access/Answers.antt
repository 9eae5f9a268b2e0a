use Rattle.std.proofs.Common.{◌≡◌, ◌+◌, ◌-◌, suc, get_or, sym, ap, ◌∙◌, arith}
use Rattle.std.proofs.lemmas.List.{length-map}
use Rattle.pb_frame.proofs.Lists.{Some-injective}
use Rattle.pb_frame.proofs.Things.{here_is}
use Rattle.pb_lan.specs.PortLists.{fed, delivered}
use Rattle.pb_lan.specs.Records.{received, transmitted}
use Rattle.pb_run.specs.Gifts.{access_gift}
use Rattle.pb_workers.specs.declared.gift.AccessGift.{AccessGift}
use Rattle.pb_run.proofs.Gifts.{customer_stands}
use Rattle.pb_run.proofs.Lists.{thing_is, both_kept_at}
use Rattle.pb_run.proofs.Meeting.{bridge_here, bridge_rings, gift_is, begins_there, customer_meets}
use Rattle.pb_run.proofs.meet.meet_access.Goals as goal

pub meet_customer-requires : goal.meet_customer-requires
meet_customer-requires g c =
    let customer = c.index-as_slice-place.result in
    let at = here_is c.args.plan.now.customers c.args.place customer c.requires.place
    (c.index-as_slice-place.is ∙ ap (λ xs. get_or xs c.args.place customer) c.as_slice.ensures) in
    let stands = customer_stands c.args.plan.now c.args.place customer c.requires.sound at in
    let rings = bridge_rings _ _ c.args.bridges.now.items customer.bridge customer.port _ _ c.requires.bridges
    stands.bridge stands.port c.index_of.ensures c.index_mut-bridge.ensures.value in
    let count = length-map c.index_mut-bridge.result.now.ins.ends.items (λ i. i.number) in
    let gift = gift_is _ c.args.accesses.now.items c.args.place c.index_mut.result.now
    (access_gift (c.args.place + 1) customer) (c.requires.accesses.each c.args.place customer c.requires.place at)
    c.index_mut.ensures.value in
    record {
      port = (omega (arith, stands.port.0), omega (arith, stands.port.1, rings.2, count));
      into = rings.0 ∙ sym (ap (λ (z : AccessGift). z.feed) gift);
      out = rings.1 ∙ sym (ap (λ (z : AccessGift). z.drain) gift);
    }

pub returns-clause-bridges : goal.returns-clause-bridges
returns-clause-bridges g c = both_kept_at _ _ _ _ _ c.index_mut-bridge.result.now c.index_mut-bridge.ensures.value
    (cc) (cc)

pub returns-clause-accesses : goal.returns-clause-accesses
returns-clause-accesses g c = both_kept_at _ _ _ _ _ c.index_mut.result.now c.index_mut.ensures.value (cc) (cc)

pub returns-clause-meets : goal.returns-clause-meets
returns-clause-meets g c = λ planned there.
    let customer = c.index-as_slice-place.result in
    let at = here_is c.args.plan.now.customers c.args.place customer c.requires.place
    (c.index-as_slice-place.is ∙ ap (λ xs. get_or xs c.args.place customer) c.as_slice.ensures) in
    let stands = customer_stands c.args.plan.now c.args.place customer c.requires.sound at in
    let given = c.requires.accesses.each c.args.place customer c.requires.place at in
    let bridge = bridge_here _ _ c.args.bridges.now.items customer.bridge _ _ c.requires.bridges stands.bridge
    c.index_of.ensures c.index_mut-bridge.ensures.value in
    let access = thing_is _ c.args.accesses.now.items c.args.place (access_gift (c.args.place + 1) customer)
    c.index_mut.result.now given c.index_mut.ensures.value in
    let number : customer.bridge ≡ suc c.index_of.result = omega (arith, c.index_of.ensures, stands.bridge.0) in
    let place : c.args.place + 1 ≡ suc c.args.place = omega arith in
    customer_meets _ _ customer planned (Some-injective (sym at ∙ there))
    (record {
      into = begins_there (received customer.port) fed _ _ c.args.bridges.now.items c.args.accesses.now.items
          c.index_of.result c.args.place customer.bridge (c.args.place + 1)
          c.index_mut-bridge.result.now c.index_mut.result.now bridge access number place c.meet_customer.ensures.into;
      out = begins_there delivered (transmitted customer.port) _ _ c.args.accesses.now.items c.args.bridges.now.items
          c.args.place c.index_of.result (c.args.place + 1) customer.bridge
          c.index_mut.result.now c.index_mut-bridge.result.now access bridge place number c.meet_customer.ensures.out;
    })
