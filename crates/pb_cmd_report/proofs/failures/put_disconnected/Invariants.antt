use Rattle.std.proofs.Common.{◌≡◌, ◌++◌, drop, flat_map, string_bytes}
use Rattle.std.specs.List.{zip}
use Rattle.pb_cmd_report.specs.Failures.{disconnected_view}
use Rattle.pb_cmd_report.proofs.failures.put_disconnected.Given as goal

abbrev pub invariant-loop-place : goal.invariant-loop-place
invariant-loop-place l =
    string_bytes l.out ++ flat_map (disconnected_view l.plan) (zip (drop l.place l.old) (drop l.place l.new))
    ≡ string_bytes l.initial.out ++ flat_map (disconnected_view l.plan) (zip l.old l.new)
