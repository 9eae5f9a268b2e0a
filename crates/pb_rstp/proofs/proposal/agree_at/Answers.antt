use Rattle.std.proofs.Common.{ap, ◌∙◌, arith}
use Rattle.pb_rstp.specs.Settling.{each, moved_on, agreeing}
use Rattle.pb_rstp.proofs.InPlace.{change_more, change_all}
use Rattle.pb_rstp.proofs.proposal.agree_at.Goals as goal

pub loop-p-preserved : goal.loop-p-preserved
loop-p-preserved c =
    change_more (moved_on (agreeing c.args.number)) c.sync_behind_root.new.ports c.loop-p.ports c.loop-p.p-index _
    c.agree.new.p (omega arith) (omega arith) c.loop-p.invariant c.agree.ensures

pub returns : goal.returns
returns c =
    change_all (moved_on (agreeing c.args.number)) c.sync_behind_root.new.ports c.loop-p.ports c.loop-p.p-index
    (omega arith) c.loop-p.invariant
    ∙ ap (λ ports. each (agreeing c.args.number) ports) c.sync_behind_root.ensures
