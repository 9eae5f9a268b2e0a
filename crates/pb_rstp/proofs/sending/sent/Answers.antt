use Rattle.pb_rstp.proofs.SendingLaws.{sent_all}
use Rattle.pb_rstp.proofs.sending.sent.Goals as goal

pub returns : goal.returns
returns c =
    sent_all c.args.id c.offer_by-offer.result c.args.ports.now c.loop-p.p-index c.loop-p.bpdus.items
    c.loop-p-test.false c.offer_by-offer.ensures c.loop-p.invariant
