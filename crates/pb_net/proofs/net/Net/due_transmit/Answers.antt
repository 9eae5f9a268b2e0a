use Rattle.std.proofs.Common.{◌≡◌, length, arith, refl}
use Rattle.pb_lan.specs.declared.event.Event.TheVariants.{Transmit}
use Rattle.pb_net.proofs.KnownSpots.{bridge_at}
use Rattle.pb_net.proofs.DueLemmas.{due_is, idle_transmit_is}
use Rattle.pb_net.proofs.net.Net.due_transmit.Goals as goal

pub returns-clause-due : goal.returns-clause-due
returns-clause-due c =
    let at = bridge_at c.self.inside c.self.invariant c.self.view_is c.in-Some.ensures.some c.index-at.ensures in
    let many : c.len.result ≡ length c.index-outbox.result.now.items = omega arith in
    due_is at (Transmit c.args.bridge c.args.port) c.sift.result c.self.view_is c.in-Some.ensures.used
    (idle_transmit_is at c.index-outbox.ensures)
    refl (rw (c.step_count.ensures, c.waiting.ensures, many) at c.sift.ensures)
