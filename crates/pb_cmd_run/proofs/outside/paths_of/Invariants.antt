use Rattle.std.proofs.Common.{◌≡◌, ◌++◌, map, drop}
use Rattle.pb_run_ports.specs.Opened.{shown}
use Rattle.pb_cmd_run.proofs.outside.paths_of.Given as goal

abbrev pub invariant-loop-port : goal.invariant-loop-port
invariant-loop-port g l =
    l.paths.items ++ map (λ port. (shown port).write) (drop l.port-index l.opened)
    ≡ map (λ port. (shown port).write) l.opened
