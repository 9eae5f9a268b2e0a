use Rattle.std.proofs.Common.{arith}
use Rattle.pb_rstp.specs.Settling.{moved_on, after_sending}
use Rattle.pb_rstp.proofs.InPlace.{change_more, change_all}
use Rattle.pb_rstp.proofs.sending.send.Goals as goal

pub loop-p-preserved : goal.loop-p-preserved
loop-p-preserved c =
    change_more (moved_on after_sending)
    c.args.ports.now c.loop-p.ports c.loop-p.p-index _ c.send_at.new.p
    (omega arith) (omega arith) c.loop-p.invariant c.send_at.ensures

pub returns : goal.returns
returns c =
    change_all (moved_on after_sending)
    c.args.ports.now c.loop-p.ports c.loop-p.p-index (omega arith) c.loop-p.invariant
