use Rattle.std.proofs.Common.{[], is_some, ap, refl}
use Rattle.pb_lan.specs.declared.event.Event.TheVariants.{Poll}
use Rattle.pb_net.proofs.KnownSpots.{customer_at}
use Rattle.pb_net.proofs.DueLemmas.{due_is, idle_poll_is}
use Rattle.pb_net.proofs.net.Net.due_poll.Goals as goal

pub returns-clause-due : goal.returns-clause-due
returns-clause-due c =
    let at = customer_at c.self.inside c.self.invariant c.self.view_is c.in-Some.ensures.some
    c.index-customer.ensures in
    due_is at (Poll c.args.port []) c.sift.result c.self.view_is (ap is_some c.in-Some.ensures.some.slot.planned)
    (idle_poll_is at []) refl (rw (c.step_count.ensures, c.is_hand_empty-is_idle.ensures) at c.sift.ensures)
