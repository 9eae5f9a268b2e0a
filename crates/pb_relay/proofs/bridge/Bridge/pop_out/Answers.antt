use Rattle.std.proofs.Common.{◌-◌, ◌≡◌, ℕ, refl, length, arith, sym, ap, ◌∙◌, Some}
use Rattle.pb_lan.specs.declared.step.Step.{Step}
use Rattle.pb_lan.specs.Queues.{waiting, next_out}
use Rattle.pb_lan.specs.declared.step.Step.TheVariants.{Transmit}
use Rattle.pb_relay.specs.Classes.{first_out, after_first}
use Rattle.pb_relay.specs.Departures.{copy_of, departure}
use Rattle.pb_relay.specs.Backlogs.{BacklogView, at_place, with_port}
use Rattle.pb_relay.specs.Standing.{BridgeView}
use Rattle.pb_relay.proofs.DepartureLemmas.{departs, none_departs}
use Rattle.pb_relay.proofs.Keeping.{used_there, grown}
use Rattle.pb_relay.proofs.StandingLemmas.{next_at, number_at, none_waits, transmitted}
use Rattle.pb_relay.proofs.CauseLemmas.{spanning_stays}
use Rattle.pb_relay.proofs.bridge.Bridge.pop_out.Goals as goal

-- what leaves from one place leaves from an equal one
leaves : (o : BacklogView) {k j : ℕ} → k ≡ j
    → departure o.is_kept (first_out (at_place o k)) ≡ departure o.is_kept (first_out (at_place o j))
leaves o e = ap (λ k. departure o.is_kept (first_out (at_place o k))) e

pub index_of-requires : goal.index_of-requires
index_of-requires c = (used_there c.self.inside c.args.port c.self.invariant c.self.view_is c.requires.used).0

pub pop-requires : goal.pop-requires
pop-requires c =
    let l = used_there c.self.inside c.args.port c.self.invariant c.self.view_is c.requires.used in
    omega (arith, l.0, l.1, c.index_of.ensures, c.self.invariant.1.count)

pub unreachable-requires : goal.unreachable-requires
unreachable-requires c =
    let l = used_there c.self.inside c.args.port c.self.invariant c.self.view_is c.requires.used in
    let waits = ap (λ (v : BridgeView). length (waiting v.plan v.number c.args.port v.steps)) c.self.view_is in
    let next = first_out (at_place c.self.inside.forwarding.backlog (c.args.port - 1)) in
    omega (
      arith,
      waits,
      c.requires.some,
      number_at _ _ _ _ _ _ _ c.args.port c.self.invariant.1 l,
      none_waits (at_place c.self.inside.forwarding.backlog (c.args.port - 1))
          (none_departs c.self.inside.forwarding.backlog.is_kept next
          (sym (c.pop.ensures.first ∙ leaves c.self.inside.forwarding.backlog c.index_of.ensures) ∙ c.in_default.is)),
    )

pub depart-requires-clause-copy : goal.depart-requires-clause-copy
depart-requires-clause-copy c =
    let o = c.self.inside.forwarding.backlog in
    let d = c.in-Some.departure in
    (departs o.is_kept (first_out (at_place o (c.args.port - 1))) d
    (c.in-Some.ensures.first ∙ leaves o c.index_of.ensures)).1
    ∙ ap (λ kept. copy_of kept d.item) c.self.invariant.5

pub invariant_of-self : goal.invariant_of-self
invariant_of-self c =
    let s = c.self.inside in
    let o = s.forwarding.backlog in
    let d = c.in-Some.departure in
    let step : Step = Transmit c.args.port d.item in
    let rest : c.pop.new.self ≡ with_port o (c.args.port - 1) (after_first (at_place o (c.args.port - 1))) =
    c.in-Some.ensures.rest ∙ ap (λ (k : ℕ). with_port o k (after_first (at_place o k))) c.index_of.ensures in
    grown s (record s.forwarding { backlog = c.pop.new.self }) s.clock s.rstp c.depart.new.steps step c.self.invariant
    c.self.view_is c.requires.reserved c.depart.ensures.steps (ap (λ (b : BacklogView). b.capacity) rest)
    (ap (λ (b : BacklogView). b.is_kept) rest)
    (transmitted _ _ _ _ _ _ _ _ c.args.port c.self.invariant.1
    (used_there s c.args.port c.self.invariant c.self.view_is c.requires.used)
    (ap (λ (b : BacklogView). b.ports) rest) d.item
    (departs o.is_kept (first_out (at_place o (c.args.port - 1))) d
    (c.in-Some.ensures.first ∙ leaves o c.index_of.ensures)).0)
    c.self.invariant.3 (spanning_stays _ _ _ _ _ step refl c.self.invariant.4)

pub returns-clause-fits : goal.returns-clause-fits
returns-clause-fits c =
    let o = c.self.inside.forwarding.backlog in
    let l = used_there c.self.inside c.args.port c.self.invariant c.self.view_is c.requires.used in
    ap (λ (v : BridgeView). next_out (waiting v.plan v.number c.args.port v.steps)) (sym c.self.view_is)
    ∙ sym (next_at _ _ _ _ _ _ _ c.args.port c.self.invariant.1 l)
    ∙ sym (departs o.is_kept (first_out (at_place o (c.args.port - 1))) c.in-Some.departure
    (c.in-Some.ensures.first ∙ leaves o c.index_of.ensures)).0
    ∙ ap Some (sym c.depart.ensures.item)
