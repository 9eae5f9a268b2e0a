use Rattle.std.proofs.Common.{◌≡◌, ◌++◌, drop, flat_map, string_bytes}
use Rattle.std.specs.List.{zip}
use Rattle.pb_plan_diff.specs.Differences.{field_line}
use Rattle.pb_plan_diff.proofs.differences.put_fields.Given as goal

abbrev pub invariant-loop-place : goal.invariant-loop-place
invariant-loop-place l =
    string_bytes l.out ++ flat_map (field_line l.title) (zip (drop l.place l.old) (drop l.place l.new))
    ≡ string_bytes l.initial.out ++ flat_map (field_line l.title) (zip l.old l.new)
