use Rattle.std.proofs.Common.{◌≡◌, ◌++◌, drop, flat_map, string_bytes}
use Rattle.pb_cmd_report.specs.Failures.{loop_text}
use Rattle.pb_cmd_report.proofs.failures.put_loops.Given as goal

abbrev pub invariant-loop-view : goal.invariant-loop-view
invariant-loop-view l =
    string_bytes l.out ++ flat_map (loop_text l.plan) (drop l.view-index l.views) ≡ string_bytes l.initial.out
    ++ flat_map (loop_text l.plan) l.views
