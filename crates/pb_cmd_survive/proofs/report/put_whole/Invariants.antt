use Rattle.std.proofs.Common.{◌≡◌, ◌++◌, drop, flat_map, string_bytes}
use Rattle.pb_cmd_survive.specs.Reports.{loop_line, service_line}
use Rattle.pb_cmd_survive.proofs.report.put_whole.Given as goal

abbrev pub invariant-loop-view : goal.invariant-loop-view
invariant-loop-view l =
    string_bytes l.out ++ flat_map (λ v. loop_line l.plan v ++ service_line l.plan v)
    (drop l.view-index l.impact.views)
    ≡ string_bytes l.initial.out ++ flat_map (λ v. loop_line l.plan v ++ service_line l.plan v) l.impact.views
