use Rattle.std.proofs.Common.{take, refl, ap}
use Rattle.pb_datagram.proofs.FindingLemmas.{finds_accepted}
use Rattle.pb_datagram.proofs.inbox.Inbox.judge.Goals as goal

pub returns-in-Ok-clause-finds : goal.returns-in-Ok-clause-finds
returns-in-Ok-clause-finds g c =
    let s = c.args.self.now in
    let octets = take c.args.len c.deref.result.now in
    finds_accepted c.args.tunnel.now c.args.sender s.buffer.items octets c.in-Ok.start c.args.len s.refusals s.refusals
    (ap (take c.args.len) c.deref.ensures.value) c.in-Ok.ensures.0 c.in-Ok.ensures.1 c.in-Ok.ensures.2 refl
