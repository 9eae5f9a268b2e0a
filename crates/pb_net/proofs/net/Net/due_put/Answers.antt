use Rattle.std.proofs.Common.{◌≡◌, length, arith, refl}
use Rattle.pb_lan.specs.declared.event.Event.TheVariants.{Put}
use Rattle.pb_net.proofs.KnownSpots.{end_at}
use Rattle.pb_net.proofs.DueLemmas.{due_is, named_lane, idle_put_is}
use Rattle.pb_net.proofs.net.Net.due_put.Goals as goal

pub returns-clause-due : goal.returns-clause-due
returns-clause-due c =
    let at = end_at c.self.inside c.self.invariant c.self.view_is c.in-Some.ensures.some c.index-at.ensures in
    let many : c.len.result ≡ length c.index-inbox.result.now.items = omega arith in
    due_is at (Put c.args.lane) c.sift.result c.self.view_is
    (named_lane _ _ _ c.in-Some.ensures.some.place c.in-Some.ensures.some.there)
    (idle_put_is at c.index-inbox.ensures) refl
    (rw (c.step_count.ensures, c.is_hand_empty.ensures, many) at c.sift.ensures)
