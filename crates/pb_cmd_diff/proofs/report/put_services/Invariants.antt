use Rattle.std.proofs.Common.{◌≡◌, ◌+◌, ◌++◌, drop, flat_map, string_bytes}
use Rattle.pb_lan.specs.Numbering.{numbers_from}
use Rattle.pb_cmd_diff.specs.Reports.{service_lines}
use Rattle.pb_cmd_diff.proofs.report.put_services.Given as goal

abbrev pub invariant-loop-place : goal.invariant-loop-place
invariant-loop-place l =
    string_bytes l.out ++ flat_map (service_lines l.old l.new l.base l.effects)
    (numbers_from (l.place + 1) (drop l.place l.base.services))
    ≡ string_bytes l.initial.out ++ flat_map (service_lines l.old l.new l.base l.effects)
    (numbers_from 1 l.base.services)
