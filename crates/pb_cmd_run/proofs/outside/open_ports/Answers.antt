use Rattle.std.proofs.Common.{◌∙◌, ap, map}
use Rattle.pb_run_ports.specs.Opened.{shown}
use Rattle.pb_cmd_run.proofs.OpenedLemmas.{of_value, start_over}
use Rattle.pb_cmd_run.proofs.outside.open_ports.Goals as goal

pub returns-in-Ok-Ok-Ok-clause-start : goal.returns-in-Ok-Ok-Ok-clause-start
returns-in-Ok-Ok-Ok-clause-start g c =
    let parts = c.in_ok-parts.ensures in
    let made = c.ports_of-ports.ensures in
    let ports = c.in-Ok-Ok-Ok.is-0 in
    start_over _ _ _ _ g.O.Openings.unread _ _ _ _ parts.shown parts.octets (of_value _ _ _ ports made.scripts)
    (of_value _ _ _ ports made.unread) (of_value _ _ _ ports made.outputs)
    (of_value _ _ _ c.in-Ok-Ok-Ok.is-2 c.paths_of-paths.ensures
    ∙ ap (map (λ port. (shown port).write)) c.as_slice-3.ensures.value)
