use Rattle.std.proofs.Common.{◌≡◌, length, is_some, ap, arith, deque_len, refl}
use Rattle.pb_lan.specs.declared.event.Event.TheVariants.{Deliver}
use Rattle.pb_net.proofs.KnownSpots.{customer_at}
use Rattle.pb_net.proofs.DueLemmas.{due_is, idle_deliver_is}
use Rattle.pb_net.proofs.net.Net.due_deliver.Goals as goal

pub returns-clause-due : goal.returns-clause-due
returns-clause-due c =
    let at = customer_at c.self.inside c.self.invariant c.self.view_is c.in-Some.ensures.some
    c.index-customer.ensures in
    let many : deque_len c.index-outbox.result.now ≡ length c.index-outbox.result.now.items = omega arith in
    due_is at (Deliver c.args.port) c.sift.result c.self.view_is (ap is_some c.in-Some.ensures.some.slot.planned)
    (idle_deliver_is at c.index-outbox.ensures) refl
    (rw (c.step_count.ensures, c.is_empty.ensures, many) at c.sift.ensures)
