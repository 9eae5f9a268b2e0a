use Rattle.std.proofs.Common.{◌≡◌, ◌++◌, drop, flat_map, string_bytes}
use Rattle.std.specs.List.{zip}
use Rattle.pb_cmd_survive.specs.Reports.{view_text}
use Rattle.pb_cmd_survive.proofs.service_lines.put_views.Given as goal

abbrev pub invariant-loop-place : goal.invariant-loop-place
invariant-loop-place l =
    string_bytes l.out ++ flat_map (view_text l.plan l.criteria) (zip (drop l.place l.old) (drop l.place l.new))
    ≡ string_bytes l.initial.out ++ flat_map (view_text l.plan l.criteria) (zip l.old l.new)
