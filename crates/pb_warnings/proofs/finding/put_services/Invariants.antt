use Rattle.std.proofs.Common.{◌≡◌, ◌+◌, ◌++◌, flat_map, drop}
use Rattle.pb_lan.specs.Numbering.{numbers_from}
use Rattle.pb_warnings.specs.Findings.{about_service}
use Rattle.pb_warnings.proofs.finding.put_services.Given as goal

-- what was appended and what remains is what is to be appended
abbrev pub invariant-loop-place : goal.invariant-loop-place
invariant-loop-place l =
    l.out.items ++ flat_map about_service (numbers_from (l.place + 1) (drop l.place l.services)) ≡ l.initial.out.items
    ++ flat_map about_service (numbers_from 1 l.services)
