use Rattle.std.proofs.Common.{◌≡◌, drop}
use Rattle.std.specs.List.{list_any}
use Rattle.pb_cmd_trace.specs.Stations.{shows}
use Rattle.pb_cmd_trace.proofs.stations.is_shown_as.Given as goal

abbrev pub invariant-loop-step : goal.invariant-loop-step
invariant-loop-step l =
    list_any (shows l.plan l.bridge l.vid l.address) (drop l.step-index l.steps) ≡ list_any
    (shows l.plan l.bridge l.vid l.address) l.steps
