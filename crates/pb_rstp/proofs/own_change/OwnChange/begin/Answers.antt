use Rattle.std.proofs.Common.{◌∙◌, arith}
use Rattle.pb_rstp.specs.Machine.{own_change}
use Rattle.pb_rstp.proofs.InPlace.{begun, begun_all, change_more, change_all}
use Rattle.pb_rstp.proofs.own_change.OwnChange.begin.Goals as goal

pub loop-p-preserved : goal.loop-p-preserved
loop-p-preserved c =
    change_more (begun (own_change c.args.self.now)) c.args.ports.now c.loop-p.ports c.loop-p.p-index _
    c.begin_at.new.p (omega arith) (omega arith) c.loop-p.invariant c.begin_at.ensures

pub returns : goal.returns
returns c =
    change_all (begun (own_change c.args.self.now)) c.args.ports.now c.loop-p.ports c.loop-p.p-index (omega arith)
    c.loop-p.invariant
    ∙ begun_all (own_change c.args.self.now) c.args.ports.now
