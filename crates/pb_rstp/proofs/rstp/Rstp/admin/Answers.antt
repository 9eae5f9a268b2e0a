use Rattle.std.proofs.Common.{ap, sym, ◌∙◌}
use Rattle.pb_rstp.specs.Machine.{setting, moved_by}
use Rattle.pb_rstp.specs.Ports.{Machine, port_of}
use Rattle.pb_rstp.specs.Settling.{nows, offer_by}
use Rattle.pb_rstp.proofs.MovingLaws.{is_same_bridge}
use Rattle.pb_rstp.proofs.CallLaws.{sets}
use Rattle.pb_rstp.proofs.rstp.Rstp.admin.Goals as goal

pub conclude-requires : goal.conclude-requires
conclude-requires c =
    c.offer_by-before.ensures
    ∙ ap (λ ms. offer_by c.self.inside.id (nows ms)) c.deref-2.ensures.value
    ∙ ap (λ (m : Machine). offer_by m.id m.ports) c.self.view_is

pub returns-clause-ok : goal.returns-clause-ok
returns-clause-ok c =
    let found = ap (λ ms. port_of (nows ms) c.args.port) (sym c.deref.ensures.value) ∙ sym c.in-Some.ensures in
    c.in_ok-change.ensures.ok
    ∙ ap (λ a. a.machine) (sets _ _ c.args.port c.args.up c.in-Some.p _
    c.self.view_is found (sym c.is_same_setting.ensures ∙ c.if-is_same_setting.false)
    (ap (λ (m : Machine). moved_by (setting c.args.port c.args.up) m.ports) (sym c.self.view_is)))

pub returns-clause-change : goal.returns-clause-change
returns-clause-change c =
    let found = ap (λ ms. port_of (nows ms) c.args.port) (sym c.deref.ensures.value) ∙ sym c.in-Some.ensures in
    c.in_ok-change.ensures.change
    ∙ ap (λ a. a.change) (sets _ _ c.args.port c.args.up c.in-Some.p _
    c.self.view_is found (sym c.is_same_setting.ensures ∙ c.if-is_same_setting.false)
    (ap (λ (m : Machine). moved_by (setting c.args.port c.args.up) m.ports) (sym c.self.view_is)))

pub returns-in_default-clause-same : goal.returns-in_default-clause-same
returns-in_default-clause-same c = is_same_bridge c.args.self.now

pub returns-then-is_same_setting-clause-same : goal.returns-then-is_same_setting-clause-same
returns-then-is_same_setting-clause-same c = is_same_bridge c.args.self.now
