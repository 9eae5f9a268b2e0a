use Rattle.std.proofs.Common.{ap, sym, ◌∙◌}
use Rattle.pb_rstp.specs.Machine.{hearing, moved_by}
use Rattle.pb_rstp.specs.Ports.{Machine, port_of}
use Rattle.pb_rstp.specs.Settling.{nows, offer_by}
use Rattle.pb_rstp.proofs.MovingLaws.{is_same_bridge}
use Rattle.pb_rstp.proofs.CallLaws.{hears}
use Rattle.pb_rstp.proofs.rstp.Rstp.hear.Goals as goal

pub conclude-requires : goal.conclude-requires
conclude-requires c =
    c.offer_by-before.ensures
    ∙ ap (λ ms. offer_by c.self.inside.id (nows ms)) c.deref-2.ensures.value
    ∙ ap (λ (m : Machine). offer_by m.id m.ports) c.self.view_is

pub returns-clause-ok : goal.returns-clause-ok
returns-clause-ok c =
    let found = ap (λ ms. port_of (nows ms) c.args.port) (sym c.deref.ensures.value) ∙ sym c.in-Some.ensures in
    let root = c.offer_by-before.result.root in
    c.in_ok-change.ensures.ok
    ∙ ap (λ a. a.machine) (hears _ _ c.args.port c.args.m.now c.in-Some.p c.heard_at-heard.result root _
    c.self.view_is found c.if-not-p.false c.heard_at-heard.ensures
    (ap (λ o. o.root) (c.offer_by-before.ensures
    ∙ ap (λ ms. offer_by c.self.inside.id (nows ms)) c.deref-2.ensures.value))
    (ap (λ (m : Machine). moved_by (hearing root c.in-Some.p.number c.args.m.now) m.ports) (sym c.self.view_is)))

pub returns-clause-change : goal.returns-clause-change
returns-clause-change c =
    let found = ap (λ ms. port_of (nows ms) c.args.port) (sym c.deref.ensures.value) ∙ sym c.in-Some.ensures in
    let root = c.offer_by-before.result.root in
    c.in_ok-change.ensures.change
    ∙ ap (λ a. a.change) (hears _ _ c.args.port c.args.m.now c.in-Some.p c.heard_at-heard.result root _
    c.self.view_is found c.if-not-p.false c.heard_at-heard.ensures
    (ap (λ o. o.root) (c.offer_by-before.ensures
    ∙ ap (λ ms. offer_by c.self.inside.id (nows ms)) c.deref-2.ensures.value))
    (ap (λ (m : Machine). moved_by (hearing root c.in-Some.p.number c.args.m.now) m.ports) (sym c.self.view_is)))

pub returns-in_default-clause-same : goal.returns-in_default-clause-same
returns-in_default-clause-same c = is_same_bridge c.args.self.now

pub returns-then-not-p-clause-same : goal.returns-then-not-p-clause-same
returns-then-not-p-clause-same c = is_same_bridge c.args.self.now
