use Rattle.std.proofs.Common.{◌≡◌, length, arith, deque_len, refl}
use Rattle.pb_lan.specs.declared.event.Event.TheVariants.{Receive}
use Rattle.pb_net.proofs.KnownSpots.{bridge_at}
use Rattle.pb_net.proofs.DueLemmas.{due_is, idle_receive_is}
use Rattle.pb_net.proofs.net.Net.due_receive.Goals as goal

pub returns-clause-due : goal.returns-clause-due
returns-clause-due c =
    let at = bridge_at c.self.inside c.self.invariant c.self.view_is c.in-Some.ensures.some c.index-at.ensures in
    let many : deque_len c.index-inbox.result.now ≡ length c.index-inbox.result.now.items = omega arith in
    due_is at (Receive c.args.bridge c.args.port) c.sift.result c.self.view_is c.in-Some.ensures.used
    (idle_receive_is at c.index-inbox.ensures) refl
    (rw (c.step_count.ensures, c.is_empty.ensures, many) at c.sift.ensures)
