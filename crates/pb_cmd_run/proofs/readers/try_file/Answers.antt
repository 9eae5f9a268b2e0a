use Rattle.std.proofs.Common.{ap, get_or}
use Rattle.pb_workers.specs.Ports.{port_frames}
use Rattle.pb_cmd_run.proofs.UnsentLemmas.{have_at, have_none}
use Rattle.pb_cmd_run.proofs.readers.try_file.Goals as goal

pub returns : goal.returns
returns g c =
    let ports = c.args.ports.now in
    let i = c.args.captures.now.place in
    let old = c.index-ports-place.result in
    have_at (port_frames g.P.Port) ports i (get_or ports i old) c.try_port.new.port
    (ap (λ d. get_or ports i d) c.index-ports-place.is) c.try_port.ensures

pub returns-then-is_none : goal.returns-then-is_none
returns-then-is_none g c = have_none _

pub returns-then-place-ports : goal.returns-then-place-ports
returns-then-place-ports g c = have_none _
