use Rattle.std.proofs.Common.{◌-◌, get_or, set, arith, ap, sym, refl, subst, ◌∙◌}
use Rattle.pb_lan.specs.BridgeLists.{Fits}
use Rattle.pb_lan.specs.Ports.{port_at, is_provider}
use Rattle.pb_lan.specs.declared.step.Moved.{Moved}
use Rattle.pb_lan.specs.declared.step.Step.{Step}
use Rattle.pb_lan.specs.declared.step.Step.TheVariants.{Admin}
use Rattle.pb_relay.specs.Changes.{moved_by_setting, state_set}
use Rattle.pb_relay.specs.Protocol.{spanning_tree}
use Rattle.pb_relay.specs.PortKinds.LocalPort.{ToNobody}
use Rattle.pb_relay.specs.Standing.{BridgeView}
use Rattle.pb_relay.specs.declared.ports.Local.{Local}
use Rattle.pb_relay.proofs.CauseLemmas.{spanning_fixed}
use Rattle.pb_relay.proofs.Keeping.{linked_there, grown, seen}
use Rattle.pb_relay.proofs.LoadLemmas.{kept_here}
use Rattle.pb_relay.proofs.SettingLemmas.{state_set_is, after_set, set_fits}
use Rattle.pb_relay.proofs.TableLemmas.{table_flushed_or}
use Rattle.pb_history.specs.StepLists.{with_step as steps_with}
use Rattle.pb_relay.proofs.bridge.Bridge.set.Goals as goal

pub index_of-place-requires : goal.index_of-place-requires
index_of-place-requires c =
    (linked_there c.self.inside c.args.port c.self.invariant c.self.view_is c.requires.provider).0

pub at-requires : goal.at-requires
at-requires c =
    let l = linked_there c.self.inside c.args.port c.self.invariant c.self.view_is c.requires.provider in
    omega (arith, l.0, l.1, c.index_of-place.ensures)

pub bounds-self-inside-place : goal.bounds-self-inside-place
bounds-self-inside-place c =
    let l = linked_there c.self.inside c.args.port c.self.invariant c.self.view_is c.requires.provider in
    omega (arith, l.0, l.1, c.index_of-place.ensures)

pub invariant_of-self : goal.invariant_of-self
invariant_of-self c =
    let s = c.self.inside in
    let fixed = ap (λ (v : BridgeView). v.plan.spanning) c.self.view_is ∙ c.requires.fixed in
    let p = ap (λ (v : BridgeView). is_provider (port_at v.plan v.number c.args.port)) c.self.view_is
    ∙ c.requires.provider in
    let l = linked_there s c.args.port c.self.invariant c.self.view_is c.requires.provider in
    let step : Step = Admin c.args.port c.args.up
    (moved_by_setting s.plan s.number s.steps.steps c.args.port c.args.up) in
    rw c.index_of-place.ensures
    (grown s
    (record s.forwarding {
      states = set s.forwarding.states (c.args.port - 1) c.state_set-next.result;
      table = c.flush_unless.new.table;
    })
    s.clock s.rstp c.append.new.steps step c.self.invariant c.self.view_is c.requires.reserved
    (c.append.ensures.steps ∙ ap (λ (m : Moved). steps_with s.steps (Admin c.args.port c.args.up m))
    (c.requires.moved ∙ ap (λ (v : BridgeView). moved_by_setting v.plan v.number v.steps c.args.port c.args.up)
    (sym c.self.view_is))) refl refl
    (after_set s.plan s.number s.steps.steps s.forwarding.states s.forwarding.backlog.ports s.clock s.forwarding.table
    c.flush_unless.new.table c.args.port c.args.up c.state_set-next.result c.self.invariant.1 fixed p l
    (c.state_set-next.ensures ∙ ap (λ (z : Local). state_set z c.args.up) (rw c.index_of-place.ensures at c.at.ensures)
    ∙ state_set_is s.plan s.number c.args.port (get_or s.ports (c.args.port - 1) ToNobody) c.args.up p
    (kept_here s.plan _ _ _ _ c.args.port c.self.invariant.0 l))
    c.flush_unless.ensures)
    (rw c.flush_unless.ensures (table_flushed_or s.plan s.clock c.args.port c.args.up s.forwarding.table
    c.self.invariant.3))
    (spanning_fixed _ _ _ _ _ step fixed c.self.invariant.4))

pub returns : goal.returns
returns c =
    let s = c.self.inside in (
      c.args.moved,
      seen s c.append.new.steps (Admin c.args.port c.args.up c.args.moved) c.append.ensures.steps c.self.view_is,
      subst (λ (m : Moved). Fits spanning_tree c.args.self.now.plan c.args.self.now.number c.args.self.now.steps
          (Admin c.args.port c.args.up m)) (sym c.requires.moved)
          (subst (λ (v : BridgeView). Fits spanning_tree v.plan v.number v.steps
          (Admin c.args.port c.args.up (moved_by_setting v.plan v.number v.steps c.args.port c.args.up))) c.self.view_is
          (set_fits s.plan s.number s.steps.steps c.args.port c.args.up
          (ap (λ (v : BridgeView). v.plan.spanning) c.self.view_is ∙ c.requires.fixed)
          (ap (λ (v : BridgeView). is_provider (port_at v.plan v.number c.args.port)) c.self.view_is
          ∙ c.requires.provider))),
    )
