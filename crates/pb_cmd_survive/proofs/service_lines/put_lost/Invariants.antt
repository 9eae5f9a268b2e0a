use Rattle.std.proofs.Common.{◌≡◌, ◌++◌, drop, flat_map, string_bytes}
use Rattle.std.specs.List.{zip}
use Rattle.pb_cmd_survive.specs.Reports.{lost_text}
use Rattle.pb_cmd_survive.proofs.service_lines.put_lost.Given as goal

abbrev pub invariant-loop-place : goal.invariant-loop-place
invariant-loop-place l =
    string_bytes l.out ++ flat_map (lost_text l.plan l.criteria (zip l.before l.now))
    (zip (drop l.place l.before) (drop l.place l.now))
    ≡ string_bytes l.initial.out ++ flat_map (lost_text l.plan l.criteria (zip l.before l.now)) (zip l.before l.now)
