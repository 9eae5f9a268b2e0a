use Rattle.std.proofs.Common.{arith}
use Rattle.pb_svlan.proofs.ServiceLemmas.{place_of-within}
use Rattle.pb_svlan.proofs.attachments.attach.Goals as goal

pub insert-requires : goal.insert-requires
insert-requires c =
    let w = place_of-within c.args.attachment.port c.args.ports.now.items in
    rw (c.place_of-place.ensures, c.deref.ensures.value) (omega (arith, w))
