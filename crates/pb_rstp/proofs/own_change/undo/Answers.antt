use Rattle.std.proofs.Common.{ap, ◌∙◌, arith}
use Rattle.pb_rstp.specs.Settling.{nows}
use Rattle.pb_rstp.proofs.InPlace.{undone, undone_all, change_more, change_all}
use Rattle.pb_rstp.proofs.own_change.undo.Goals as goal

pub loop-p-preserved : goal.loop-p-preserved
loop-p-preserved c =
    change_more undone c.args.ports.now c.loop-p.ports c.loop-p.p-index _ c.undo_at.new.p (omega arith) (omega arith)
    c.loop-p.invariant c.undo_at.ensures

pub returns : goal.returns
returns c =
    ap nows (change_all undone c.args.ports.now c.loop-p.ports c.loop-p.p-index (omega arith) c.loop-p.invariant)
    ∙ undone_all c.args.ports.now
