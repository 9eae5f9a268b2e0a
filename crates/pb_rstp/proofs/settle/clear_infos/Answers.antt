use Rattle.std.proofs.Common.{arith}
use Rattle.pb_rstp.specs.Settling.{moved_on, without_info}
use Rattle.pb_rstp.proofs.InPlace.{change_more, change_all}
use Rattle.pb_rstp.proofs.settle.clear_infos.Goals as goal

pub loop-p-preserved : goal.loop-p-preserved
loop-p-preserved c =
    change_more (moved_on without_info)
    c.args.ports.now c.loop-p.ports c.loop-p.p-index _ c.clear_info.new.p
    (omega arith) (omega arith) c.loop-p.invariant c.clear_info.ensures

pub returns : goal.returns
returns c =
    change_all (moved_on without_info)
    c.args.ports.now c.loop-p.ports c.loop-p.p-index (omega arith) c.loop-p.invariant
