use Rattle.std.proofs.Common.{ap, ◌∙◌, arith}
use Rattle.std.specs.Option.{option_to_list}
use Rattle.pb_rstp.specs.Settling.{each, moved_on}
use Rattle.pb_rstp.proofs.InPlace.{change_more, change_all}
use Rattle.pb_rstp.proofs.TopologyLaws.{telling, telling_is}
use Rattle.pb_rstp.proofs.topology.report.Goals as goal

pub loop-p-preserved : goal.loop-p-preserved
loop-p-preserved c =
    change_more
    (moved_on (telling c.args.prompt c.has_any_opened-is_any_opened.result (option_to_list c.changed_at-changed.result)))
    c.args.ports.now c.loop-p.ports c.loop-p.p-index _ c.report_at.new.p (omega arith) (omega arith)
    c.loop-p.invariant c.report_at.ensures

pub returns : goal.returns
returns c =
    let ports = c.args.ports.now in
    let opened = c.has_any_opened-is_any_opened in
    let changed = c.changed_at-changed in
    change_all (moved_on (telling c.args.prompt opened.result (option_to_list changed.result))) ports c.loop-p.ports
    c.loop-p.p-index (omega arith) c.loop-p.invariant
    ∙ ap (λ change. each change ports)
    (telling_is c.args.prompt c.args.heard ports opened.result (option_to_list changed.result) opened.ensures changed.ensures)
