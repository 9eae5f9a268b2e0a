use Rattle.std.proofs.Common.{◌≡◌, ◌++◌, drop, flat_map, string_bytes}
use Rattle.pb_cmd_report.specs.Tables.{service_row}
use Rattle.pb_cmd_report.proofs.services.put_service_rows.Given as goal

abbrev pub invariant-loop-view : goal.invariant-loop-view
invariant-loop-view l =
    string_bytes l.out ++ flat_map (service_row l.plan l.shape) (drop l.view-index l.views) ≡ string_bytes l.initial.out
    ++ flat_map (service_row l.plan l.shape) l.views
