use Rattle.std.proofs.Common.{◌≡◌, ◌+◌, [], arith}
use Rattle.std.proofs.lemmas.List.Elements.{All-nil, All-same}
use Rattle.pb_frame.proofs.Things.{here_is}
use Rattle.pb_run.specs.Wires.{HasOuter}
use Rattle.pb_workers.specs.declared.access.Access.{Access}
use Rattle.pb_workers.specs.declared.access.Last.TheVariants.{More}
use Rattle.pb_run.proofs.EndsThere.{customers_apart, customer_ports, first_there, others_there, others_distinct}
use Rattle.pb_run.proofs.Gifts.{no_accesses, access_pushed}
use Rattle.pb_threads.proofs.Alls.{all_more}
use Rattle.pb_run.proofs.build.accesses_of.Goals as goal

pub loop-customer-init : goal.loop-customer-init
loop-customer-init g c =
    let D : Type 0 = Access g.row.W.Denot g.W.Wiring in
    record {
      gifts = no_accesses _ c.args.plan.now c.in_ok-accesses.accesses.items c.in_ok-accesses.ensures.items;
      fresh = All-same (λ (d : D). (d.place.steps ≡ []) × (d.book.last ≡ More)) _ [] c.in_ok-accesses.ensures.items
          (All-nil _);
      there = c.requires.there;
      apart = customers_apart c.args.plan.now c.requires.sound;
    }

pub access_of-requires-clause-outer : goal.access_of-requires-clause-outer
access_of-requires-clause-outer g c =
    let customers = c.as_slice-customers.result.now in
    let at = rw c.as_slice-customers.ensures at
    (here_is customers c.loop-customer.customer-index c.customer-item.result c.loop-customer-test.true
    c.customer-item.is) in
    first_there _ _ _ (customer_ports c.args.plan.now.customers c.loop-customer.customer-index c.customer-item.result
    at)
    (HasOuter c.loop-customer.ends.outlets.items c.loop-customer.ends.inlets.items)
    c.loop-customer.invariant.there

pub loop-customer-preserved : goal.loop-customer-preserved
loop-customer-preserved g c =
    let customers = c.as_slice-customers.result.now in
    let customer = c.customer-item.result in
    let i = c.loop-customer.invariant in
    let at = rw c.as_slice-customers.ensures at
    (here_is customers c.loop-customer.customer-index customer c.loop-customer-test.true c.customer-item.is) in
    let D : Type 0 = Access g.row.W.Denot g.W.Wiring in
    let made = c.access_of.ensures in
    let ports = customer_ports c.args.plan.now.customers c.loop-customer.customer-index customer at in
    record {
      gifts = access_pushed _ c.args.plan.now c.loop-customer.customer-index (c.len.result + 1) customer
          c.loop-customer.accesses.items c.push_back.new.self.items c.access_of.result at
          (omega (arith, c.len.ensures)) c.in_ok-push_back.ensures.items i.gifts made.gift;
      fresh = all_more (λ (d : D). (d.place.steps ≡ []) × (d.book.last ≡ More)) c.access_of.result
          c.loop-customer.accesses.items c.push_back.new.self.items c.in_ok-push_back.ensures.items
          i.fresh (made.fresh.0, made.fresh.1);
      there = others_there _ _ _ ports
          (HasOuter c.loop-customer.ends.outlets.items c.loop-customer.ends.inlets.items)
          (HasOuter c.access_of.new.ends.outlets.items c.access_of.new.ends.inlets.items) i.apart made.outer i.there;
      apart = others_distinct _ _ _ ports i.apart;
    }
