-- A network after a step of a bridge.
use Rattle.std.proofs.Common.{◌≡◌, ℕ, suc, ◌<◌, inl, inr, Bool, List, [], ◌∷◌, ◌++◌, Some, length, slice_get, ◌==◌}
use Rattle.std.proofs.Common.{if◌then◌else◌, refl, sym, ap, ◌∙◌, length-set, ne_eqb}
use Rattle.std.proofs.Math.ListN.{set}
use Rattle.std.proofs.lemmas.Bool.{eq-eqb, cases_eq}
use Rattle.pb_frame.specs.declared.learnt.Learnt.{Learnt}
use Rattle.pb_frame.proofs.Things.{flat_map-none, flat_map-more}
use Rattle.std.specs.declared.option.Option.{Option}
use Rattle.pb_lan.specs.BridgeLists.{IsLawfulBridge}
use Rattle.pb_lan.specs.Events.{with_step}
use Rattle.pb_lan.specs.Records.{steps_of, received, transmitted, received_by, transmitted_by}
use Rattle.pb_relay.specs.Protocol.{spanning_tree}
use Rattle.pb_lan.specs.declared.plan.Plan.{Plan}
use Rattle.pb_lan.specs.declared.record.Record.{Record}
use Rattle.pb_lan.specs.declared.step.Item.{Item}
use Rattle.pb_lan.specs.declared.step.Moved.{Moved}
use Rattle.pb_lan.specs.declared.step.Outcome.{Outcome}
use Rattle.pb_lan.specs.declared.step.Place.TheVariants.{Bridge}
use Rattle.pb_lan.specs.declared.step.Step.{Step}
use Rattle.pb_lan.specs.declared.step.Step.TheVariants.{Receive, Transmit}
use Rattle.pb_net.specs.Nets.{IsKept}
use Rattle.pb_net.specs.Slots.{IsSlot, bridge_of, port_of, items_at}
use Rattle.pb_net.proofs.Keeping.{after_bridge, one_slot}
use Rattle.pb_net.proofs.OneMore.{items_at-set_other, moved_on, moved_in}

-- the items at the port itself
at_port : (at port : ℕ) (items : List Item) → at ≡ port → (if at == port then items else []) ≡ items
at_port at port items e = ap (λ (b : Bool). if b then items else []) (eq-eqb at port e)

elsewhere : (at port : ℕ) (items : List Item) → (at ≡ port → ⊥) → (if at == port then items else []) ≡ []
elsewhere at port items ne = ap (λ (b : Bool). if b then items else []) (ne_eqb at port ne)

-- two ports of different bridges have different slots
other_slot : (plan : Plan) (r port s t : ℕ) → IsSlot plan (suc r) port s → (bridge_of t ≡ suc r → ⊥) → t ≡ s → ⊥
other_slot plan r port s t at ne e = ne (ap bridge_of e ∙ at.of_bridge)

-- the network's invariant after a Receive step
pub after_receive : (plan : Plan) (rec : Record) (ins outs : List (List Item)) (r s port : ℕ) (item : Item)
    (learnt : Option Learnt) (outcome : Outcome) (moved : Option Moved) (inbox : List Item)
    → IsKept plan rec ins outs → r < length plan.bridges → IsSlot plan (suc r) port s
    → slice_get ins s ≡ Some (item ∷ inbox)
    → IsLawfulBridge spanning_tree plan (suc r)
    (steps_of rec.bridges (suc r) ++ Receive port item learnt outcome moved ∷ [])
    → IsKept plan (with_step rec (Bridge (suc r)) (Receive port item learnt outcome moved)) (set ins s inbox) outs
after_receive plan rec ins outs r s port item learnt outcome moved inbox kept within at box lawful =
    let step : Step = Receive port item learnt outcome moved in
    let steps : List Step = steps_of rec.bridges (suc r) in
    after_bridge plan rec ins outs (set ins s inbox) outs r step kept within lawful (length-set ins s inbox) refl
    (λ t ne. (items_at-set_other ins s t inbox (other_slot plan r port s t at ne), refl))
    (λ t e whole w. elim (cases_eq t s) [
      | inl here ↦ moved_on (received (port_of t) steps) ins s t item inbox here box
          (flat_map-more (received_by (port_of t)) steps step ∙ ap (λ z. received (port_of t) steps ++ z)
          (at_port port (port_of t) (item ∷ []) (sym (ap port_of here ∙ at.of_port)))) w
      | inr ne ↦
          ap (λ z. received (port_of t) (steps ++ step ∷ []) ++ z) (items_at-set_other ins s t inbox ne)
          ∙ ap (λ z. z ++ items_at ins t) (flat_map-none (received_by (port_of t)) step
          (elsewhere port (port_of t) (item ∷ []) (λ p. ne (one_slot plan (suc r) port s t at e (sym p)))) steps) ∙ w
    ])
    (λ t e front w. w ∙ sym (flat_map-none (transmitted_by (port_of t)) step refl steps))

-- the network's invariant after a Transmit step
pub after_transmit : (plan : Plan) (rec : Record) (ins outs : List (List Item)) (r s port : ℕ) (item : Item)
    (outbox : List Item)
    → IsKept plan rec ins outs → r < length plan.bridges → IsSlot plan (suc r) port s → slice_get outs s ≡ Some outbox
    → IsLawfulBridge spanning_tree plan (suc r) (steps_of rec.bridges (suc r) ++ Transmit port item ∷ [])
    → IsKept plan (with_step rec (Bridge (suc r)) (Transmit port item)) ins (set outs s (outbox ++ item ∷ []))
after_transmit plan rec ins outs r s port item outbox kept within at box lawful =
    let step : Step = Transmit port item in
    let steps : List Step = steps_of rec.bridges (suc r) in
    let grown : List Item = outbox ++ item ∷ [] in
    after_bridge plan rec ins outs ins (set outs s grown) r step kept within lawful refl (length-set outs s grown)
    (λ t ne. (refl, items_at-set_other outs s t grown (other_slot plan r port s t at ne)))
    (λ t e whole w. ap (λ z. z ++ items_at ins t) (flat_map-none (received_by (port_of t)) step refl steps) ∙ w)
    (λ t e front w. elim (cases_eq t s) [
      | inl here ↦ moved_in front outs s t item outbox here box
          (flat_map-more (transmitted_by (port_of t)) steps step ∙ ap (λ z. transmitted (port_of t) steps ++ z)
          (at_port port (port_of t) (item ∷ []) (sym (ap port_of here ∙ at.of_port)))) w
      | inr ne ↦
          ap (λ z. front ++ z) (items_at-set_other outs s t grown ne) ∙ w
          ∙ sym (flat_map-none (transmitted_by (port_of t)) step
          (elsewhere port (port_of t) (item ∷ []) (λ p. ne (one_slot plan (suc r) port s t at e (sym p)))) steps)
    ])

-- the network's invariant after a step that neither receives nor transmits
pub after_quiet : (plan : Plan) (rec : Record) (ins outs : List (List Item)) (r : ℕ) (step : Step)
    → IsKept plan rec ins outs → r < length plan.bridges → ((port : ℕ) → received_by port step ≡ [])
    → ((port : ℕ) → transmitted_by port step ≡ [])
    → IsLawfulBridge spanning_tree plan (suc r) (steps_of rec.bridges (suc r) ++ step ∷ [])
    → IsKept plan (with_step rec (Bridge (suc r)) step) ins outs
after_quiet plan rec ins outs r step kept within receives transmits lawful =
    let steps : List Step = steps_of rec.bridges (suc r) in
    after_bridge plan rec ins outs ins outs r step kept within lawful refl refl (λ t ne. (refl, refl))
    (λ t e whole w. ap (λ z. z ++ items_at ins t)
    (flat_map-none (received_by (port_of t)) step (receives (port_of t)) steps) ∙ w)
    (λ t e front w. w ∙ sym (flat_map-none (transmitted_by (port_of t)) step (transmits (port_of t)) steps))
