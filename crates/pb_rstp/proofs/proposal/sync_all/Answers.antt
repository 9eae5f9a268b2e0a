use Rattle.std.proofs.Common.{arith}
use Rattle.pb_rstp.specs.Settling.{moved_on, synced}
use Rattle.pb_rstp.proofs.InPlace.{change_more, change_all}
use Rattle.pb_rstp.proofs.proposal.sync_all.Goals as goal

pub loop-p-preserved : goal.loop-p-preserved
loop-p-preserved c =
    change_more (moved_on (synced c.args.fwd_delay))
    c.args.ports.now c.loop-p.ports c.loop-p.p-index _ c.sync.new.p
    (omega arith) (omega arith) c.loop-p.invariant c.sync.ensures

pub returns : goal.returns
returns c =
    change_all (moved_on (synced c.args.fwd_delay))
    c.args.ports.now c.loop-p.ports c.loop-p.p-index (omega arith) c.loop-p.invariant
