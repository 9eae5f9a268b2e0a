use Rattle.std.proofs.Common.{◌≡◌, ◌++◌, drop, flat_map, string_bytes}
use Rattle.std.specs.List.{zip}
use Rattle.pb_cmd_survive.specs.AcceptedTexts.{view_table}
use Rattle.pb_cmd_survive.proofs.tables.put_view_tables.Given as goal

abbrev pub invariant-loop-place : goal.invariant-loop-place
invariant-loop-place l =
    string_bytes l.out ++ flat_map (view_table l.plan l.criteria l.failure)
    (zip (drop l.place l.old) (drop l.place l.new))
    ≡ string_bytes l.initial.out ++ flat_map (view_table l.plan l.criteria l.failure) (zip l.old l.new)
