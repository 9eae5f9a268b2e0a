use Rattle.std.proofs.Common.{ap, sym, ◌∙◌}
use Rattle.pb_rstp.specs.Machine.{ticking, moved_by}
use Rattle.pb_rstp.specs.Ports.{Machine, fwd_delay_of}
use Rattle.pb_rstp.specs.Settling.{nows, offer_by}
use Rattle.pb_rstp.proofs.CallLaws.{ticks}
use Rattle.pb_rstp.proofs.rstp.Rstp.tick.Goals as goal

pub conclude-requires : goal.conclude-requires
conclude-requires c =
    c.offer_by-before.ensures
    ∙ ap (λ ms. offer_by c.self.inside.id (nows ms)) c.deref.ensures.value
    ∙ ap (λ (m : Machine). offer_by m.id m.ports) c.self.view_is

pub returns-clause-ok : goal.returns-clause-ok
returns-clause-ok c =
    let fwd_delay = c.fwd_delay_of.result in
    let hello = c.is_hello_tick.result in
    c.in_ok-change.ensures.ok
    ∙ ap (λ a. a.machine) (ticks _ _ fwd_delay hello c.hello_when_after-hello_when.result _ c.self.view_is
    (c.fwd_delay_of.ensures ∙ ap (λ ms. fwd_delay_of (nows ms)) c.deref-2.ensures.value)
    c.is_hello_tick.ensures c.hello_when_after-hello_when.ensures
    (ap (λ (m : Machine). moved_by (ticking fwd_delay hello) m.ports) (sym c.self.view_is)))

pub returns-clause-change : goal.returns-clause-change
returns-clause-change c =
    let fwd_delay = c.fwd_delay_of.result in
    let hello = c.is_hello_tick.result in
    c.in_ok-change.ensures.change
    ∙ ap (λ a. a.change) (ticks _ _ fwd_delay hello c.hello_when_after-hello_when.result _ c.self.view_is
    (c.fwd_delay_of.ensures ∙ ap (λ ms. fwd_delay_of (nows ms)) c.deref-2.ensures.value)
    c.is_hello_tick.ensures c.hello_when_after-hello_when.ensures
    (ap (λ (m : Machine). moved_by (ticking fwd_delay hello) m.ports) (sym c.self.view_is)))
