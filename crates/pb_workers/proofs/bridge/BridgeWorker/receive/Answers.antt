use Rattle.std.proofs.Common.{◌≡◌, ◌∙◌, ◌++◌, ◌∷◌, ◌-◌, ℕ, [], suc, ap, sym, subst, rules, true, refl, arith}
use Rattle.std.proofs.Common.{Some, if◌then◌else◌, slice_get}
use Rattle.std.specs.List.{list_any}
use Rattle.rtrb.specs.Ring.{known_items, received as received_over}
use Rattle.pb_lan.specs.Laws.{is_setting}
use Rattle.pb_lan.specs.Queues.{capacity_of}
use Rattle.pb_lan.specs.declared.step.Step.TheVariants.{Receive}
use Rattle.pb_relay.specs.Standing.{BridgeView, with_step}
use Rattle.pb_ring.specs.Rings.{shown_at}
use Rattle.pb_relay.specs.Room.{has_room_for}
use Rattle.pb_workers.specs.Lossless.{refuses_when_full}
use Rattle.pb_workers.proofs.ReceiveLemmas.{first_known, gave_none, none_later, took_one}
use Rattle.pb_workers.proofs.bridge.BridgeWorker.receive.Goals as goal

pub invariant_of-self-2-clause-took : goal.invariant_of-self-2-clause-took
invariant_of-self-2-clause-took g c = λ q.
    let same = c.in_default.ensures.ok in
    let has = c.take_in-outcome.ensures.step in
    let step = Receive c.args.port c.in-Some.item has.0 c.take_in-outcome.result has.1 in
    let there : suc c.index_of-place.result ≡ c.args.port = omega (arith, c.index_of-place.ensures, c.requires.port.0) in
    took_one (λ i. received_over i.end) c.pop.new.self.ends.items c.has_item.new.self.ends.items
    c.args.self.now.ins.ends.items c.index_of-place.result c.args.port q c.args.self.now.bridge.steps
    c.take_in-outcome.new.bridge.steps c.in-Some.item has.0 c.take_in-outcome.result has.1
    (c.in-Some.ensures.received q) c.has_item.ensures.received (c.args.self.now.took q) there
    (ap (λ (b : BridgeView). b.steps) has.2 ∙ ap (λ (b : BridgeView). b.steps ++ step ∷ []) same)

pub invariant_of-self-2-clause-gave : goal.invariant_of-self-2-clause-gave
invariant_of-self-2-clause-gave g c = λ q.
    let same = c.in_default.ensures.ok in
    let has = c.take_in-outcome.ensures.step in
    let step = Receive c.args.port c.in-Some.item has.0 c.take_in-outcome.result has.1 in
    gave_none _ _ c.args.port c.args.self.now.bridge.steps c.take_in-outcome.new.bridge.steps c.in-Some.item has.0
    c.take_in-outcome.result has.1 (c.args.self.now.gave q)
    (ap (λ (b : BridgeView). b.steps) has.2 ∙ ap (λ (b : BridgeView). b.steps ++ step ∷ []) same)

pub invariant_of-self-2-clause-unset : goal.invariant_of-self-2-clause-unset
invariant_of-self-2-clause-unset g c = λ still.
    let same = c.in_default.ensures.ok in
    let has = c.take_in-outcome.ensures.step in
    let step = Receive c.args.port c.in-Some.item has.0 c.take_in-outcome.result has.1 in
    none_later is_setting c.args.self.now.bridge.steps c.take_in-outcome.new.bridge.steps step
    (ap (λ (b : BridgeView). b.steps) has.2 ∙ ap (λ (b : BridgeView). b.steps ++ step ∷ []) same)
    (c.args.self.now.unset still) refl

pub invariant_of-self-2-clause-capacity : goal.invariant_of-self-2-clause-capacity
invariant_of-self-2-clause-capacity g c =
    let same = c.in_default.ensures.ok in
    let has = c.take_in-outcome.ensures.step in
    let step = Receive c.args.port c.in-Some.item has.0 c.take_in-outcome.result has.1 in
    c.args.self.now.capacity
    ∙ ap (λ (b : BridgeView). capacity_of b.plan b.number) (sym (has.2 ∙ ap (λ (b : BridgeView). with_step b step) same))

pub invariant_of-self-2-clause-whole : goal.invariant_of-self-2-clause-whole
invariant_of-self-2-clause-whole g c = λ waits.
    let same = c.in_default.ensures.ok in
    let item = c.in-Some.item in
    let may : c.may_receive.result ≡ true = search rules in
    let place : c.index_of-place.result ≡ c.args.port - 1 = omega (arith, c.index_of-place.ensures) in
    let known = subst (λ (p : ℕ). slice_get (shown_at (λ i. known_items i.end) c.has_item.new.self.ends.items p) 0
    ≡ Some item) place
    (first_known _ item (search rules) (λ first is. c.in-Some.ensures.first first is)) in
    let bridge = c.args.self.now.bridge in
    let room : has_room_for bridge.plan bridge.number bridge.steps c.args.self.now.queue c.args.port item ≡ true =
    ap (λ w. if w then has_room_for bridge.plan bridge.number bridge.steps c.args.self.now.queue c.args.port item
    else true) (sym (c.args.self.now.patient waits)) ∙ sym (c.may_receive.ensures item known) ∙ may in
    c.take_in-outcome.ensures.whole
    (subst (λ (b : BridgeView). has_room_for b.plan b.number b.steps (capacity_of b.plan b.number) c.args.port item
    ≡ true) (sym same)
    (subst (λ (q : ℕ). has_room_for bridge.plan bridge.number bridge.steps q c.args.port item ≡ true)
    c.args.self.now.capacity room))
    (ap (λ (b : BridgeView). list_any refuses_when_full b.steps) same ∙ c.args.self.now.whole waits)
