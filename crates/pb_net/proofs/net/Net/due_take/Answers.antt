use Rattle.std.proofs.Common.{◌≡◌, length, arith, deque_len, refl}
use Rattle.pb_lan.specs.declared.event.Event.TheVariants.{Take}
use Rattle.pb_net.proofs.KnownSpots.{start_at}
use Rattle.pb_net.proofs.DueLemmas.{due_is, named_lane, idle_take_is}
use Rattle.pb_net.proofs.net.Net.due_take.Goals as goal

pub returns-clause-due : goal.returns-clause-due
returns-clause-due c =
    let at = start_at c.self.inside c.self.invariant c.self.view_is c.in-Some.ensures.some c.index-at.ensures in
    let many : deque_len c.index-outbox.result.now ≡ length c.index-outbox.result.now.items = omega arith in
    due_is at (Take c.args.lane) c.sift.result c.self.view_is
    (named_lane _ _ _ c.in-Some.ensures.some.place c.in-Some.ensures.some.there)
    (idle_take_is at c.index-outbox.ensures) refl
    (rw (c.step_count.ensures, c.is_hand_empty.ensures, c.is_empty.ensures, many) at c.sift.ensures)
