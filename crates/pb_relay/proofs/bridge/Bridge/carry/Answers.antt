use Rattle.std.proofs.Common.{◌≡◌, ◌≤◌, ◌∷◌, ◌++◌, [], Some, None, refl, cond, List, ℕ, length, arith, ap, sym, subst}
use Rattle.std.proofs.Common.{◌∙◌}
use Rattle.std.specs.List.{filter}
use Rattle.pb_frame.specs.Frames.{src_of, dst_of, is_group, shortest_frame}
use Rattle.pb_lan.specs.Ports.{port_at, local_ports}
use Rattle.pb_relay.specs.Protocol.{spanning_tree}
use Rattle.pb_lan.specs.Shapes.{state_after}
use Rattle.pb_lan.specs.BridgeLists.{ruling, Fits}
use Rattle.pb_lan.specs.BridgeLists.Ruling.{Carries}
use Rattle.pb_lan.specs.declared.step.Outcome.TheVariants.{Relayed}
use Rattle.pb_lan.specs.declared.step.Step.{Step}
use Rattle.pb_lan.specs.declared.step.Step.TheVariants.{Receive}
use Rattle.pb_relay.specs.Loads.{IsLoadedAt, is_choice}
use Rattle.pb_relay.specs.Standing.{BridgeView, IsStanding}
use Rattle.pb_fdb.specs.Tables.{where_in as place_in}
use Rattle.pb_relay.proofs.CopyLemmas.{separate_of}
use Rattle.pb_relay.proofs.TableLemmas.{found_in}
use Rattle.pb_relay.specs.Tables.{IsTableOf}
use Rattle.pb_relay.proofs.EntryLemmas.{IsAdmitted, carried}
use Rattle.pb_relay.proofs.ReceiveLemmas.{learnt_there, relayed}
use Rattle.pb_relay.proofs.CauseLemmas.{spanning_stays}
use Rattle.pb_relay.proofs.Keeping.{grown, taken}
use Rattle.pb_relay.proofs.bridge.Bridge.carry.Goals as goal

-- what is known of the item
admitted : (old : BridgeView) (plan : BridgeView) → plan ≡ old → (port : ℕ) → (item : _) → (vid : ℕ)
    → ruling spanning_tree old.plan old.number old.steps port item ≡ Carries vid
    → IsAdmitted plan.plan (port_at plan.plan plan.number port) item vid
admitted old view e port item vid r =
    carried view.plan (port_at view.plan view.number port) (state_after view.plan view.number view.steps port) item vid
    (ap (λ (v : BridgeView). ruling spanning_tree v.plan v.number v.steps port item) e ∙ r)

pub source_of-requires : goal.source_of-requires
source_of-requires c =
    let a = admitted _ _ c.self.view_is c.args.port c.args.item c.args.vid c.requires.ruling in
    subst (λ (w : List ℕ). shortest_frame ≤ length w) (sym c.as_slice-frame.ensures) a.long

pub sought-at-requires : goal.sought-at-requires
sought-at-requires c =
    let a = admitted _ _ c.self.view_is c.args.port c.args.item c.args.vid c.requires.ruling in
    subst (λ (w : List ℕ). shortest_frame ≤ length w) (sym c.as_slice-frame.ensures) a.long

pub queue_copies-refused-requires-clause-hops : goal.queue_copies-refused-requires-clause-hops
queue_copies-refused-requires-clause-hops c =
    let a = admitted _ _ c.self.view_is c.args.port c.args.item c.args.vid c.requires.ruling in
    omega (arith, a.unworn)

-- the step may come there, and the invariant holds after it
whole : (c : goal.After-append_receive)
    → Fits spanning_tree c.self.inside.plan c.self.inside.number c.self.inside.steps.steps
    (Receive c.args.port c.args.item (Some c.learn-learnt.result)
    (Relayed c.choose-chosen.result c.queue_copies-refused.result) None)
    × IsStanding c.self.inside.plan c.self.inside.number
    (c.self.inside.steps.steps ++ Receive c.args.port c.args.item (Some c.learn-learnt.result)
    (Relayed c.choose-chosen.result c.queue_copies-refused.result) None ∷ [])
    c.self.inside.forwarding.states c.queue_copies-refused.new.backlog.ports c.self.inside.clock
    c.learn-learnt.new.self.sightings
    × IsTableOf c.self.inside.plan c.self.inside.clock c.learn-learnt.new.self
whole c =
    let s = c.self.inside in
    let newer = c.learn-learnt.new.self in
    let learns = learnt_there s c.args.vid c.args.port c.source_of.result.0 (src_of c.args.item.wire) newer
    c.learn-learnt.result c.self.invariant (c.source_of.ensures ∙ ap src_of c.as_slice-frame.ensures)
    c.learn-learnt.ensures.answer c.learn-learnt.ensures.table in
    let at = c.sought-at.ensures
    ∙ ap (λ w. cond (is_group (dst_of w)) None (place_in newer s.clock c.args.vid (dst_of w))) c.as_slice-frame.ensures
    ∙ ap (λ o. cond (is_group (dst_of c.args.item.wire)) None o)
    (found_in s.plan s.clock c.args.vid (dst_of c.args.item.wire) newer learns.1.ageing) in
    let chosen : c.choose-chosen.result
    ≡ filter (is_choice s.ports s.forwarding.states c.args.port c.args.vid c.sought-at.result) local_ports =
    c.choose-chosen.ensures.chosen in
    let r = relayed s c.queue_copies-refused.new.backlog.ports newer.sightings c.args.port c.args.vid c.args.item
    c.args.load.now c.learn-learnt.result c.sought-at.result c.choose-chosen.result c.queue_copies-refused.result
    c.self.invariant
    (ap (λ (v : BridgeView). ruling spanning_tree v.plan v.number v.steps c.args.port c.args.item) c.self.view_is
    ∙ c.requires.ruling)
    (subst (λ (v : BridgeView). IsLoadedAt v.plan v.number (port_at v.plan v.number c.args.port) c.args.item.wire
    c.args.load.now) (sym c.self.view_is) c.requires.load)
    learns.0 at chosen (separate_of 0 c.choose-chosen.result c.choose-chosen.ensures.ascending)
    c.queue_copies-refused.ensures.copied c.queue_copies-refused.ensures.count in
    (r.0, r.1, learns.1)

pub invariant_of-self : goal.invariant_of-self
invariant_of-self c =
    let s = c.self.inside in
    let step : Step = Receive c.args.port c.args.item (Some c.learn-learnt.result)
    (Relayed c.choose-chosen.result c.queue_copies-refused.result) None in
    let kept = c.queue_copies-refused.ensures.kept in
    grown s (record s.forwarding { table = c.learn-learnt.new.self; backlog = c.queue_copies-refused.new.backlog })
    s.clock s.rstp c.append_receive.new.steps step c.self.invariant c.self.view_is c.requires.reserved
    c.append_receive.ensures.steps kept.capacity kept.is_kept (whole c).1 (whole c).2
    (spanning_stays _ _ _ _ _ step refl c.self.invariant.4)

pub returns : goal.returns
returns c =
    taken c.self.inside c.append_receive.new.steps c.args.port c.args.item (Some c.learn-learnt.result)
    (Relayed c.choose-chosen.result c.queue_copies-refused.result) None _ c.self.view_is (whole c).0
    c.append_receive.ensures.steps c.append_receive.ensures.back
