use Rattle.std.proofs.Common.{ap, sym, ◌∙◌, arith, if◌then◌else◌}
use Rattle.pb_rstp.specs.Settling.{each, moved_on, without_agreement}
use Rattle.pb_rstp.proofs.InPlace.{change_more, change_all}
use Rattle.pb_rstp.proofs.settle.clear_agreements.Goals as goal

pub loop-p-preserved : goal.loop-p-preserved
loop-p-preserved c =
    change_more (moved_on without_agreement) c.args.ports.now c.loop-p.ports c.loop-p.p-index _
    c.clear_agreement.new.p (omega arith) (omega arith) c.loop-p.invariant c.clear_agreement.ensures

pub returns : goal.returns
returns c =
    let ports = c.args.ports.now in
    change_all (moved_on without_agreement) ports c.loop-p.ports c.loop-p.p-index (omega arith) c.loop-p.invariant
    ∙ ap (λ b. if b then ports else each without_agreement ports) (sym c.if-is_same.false ∙ c.is_same.ensures)
