use Rattle.std.proofs.Common.{ap, get_or}
use Rattle.pb_workers.specs.Ports.{port_frames}
use Rattle.pb_cmd_run.proofs.UnsentLemmas.{have_at, have_none, have_on}
use Rattle.pb_cmd_run.proofs.linger.try_all.Goals as goal

pub loop-index-preserved : goal.loop-index-preserved
loop-index-preserved g c =
    let ports = c.loop-index.ports in
    let i = c.loop-index.index in
    let old = c.index-ports-index.result in
    have_on c.loop-index.invariant
    (have_at (port_frames g.P.Port) ports i (get_or ports i old) c.try_port.new.port
    (ap (λ d. get_or ports i d) c.index-ports-index.is) c.try_port.ensures)

pub loop-index-init : goal.loop-index-init
loop-index-init g c = have_none _
