use Rattle.std.proofs.Common.{◌≡◌, ◌+◌, ◌++◌, flat_map, drop}
use Rattle.pb_lan.specs.Numbering.{numbers_from}
use Rattle.pb_warnings.specs.Findings.{about_bridge}
use Rattle.pb_warnings.proofs.finding.put_bridges.Given as goal

-- what was appended and what remains is what is to be appended
abbrev pub invariant-loop-place : goal.invariant-loop-place
invariant-loop-place l =
    l.out.items ++ flat_map about_bridge (numbers_from (l.place + 1) (drop l.place l.bridges)) ≡ l.initial.out.items
    ++ flat_map about_bridge (numbers_from 1 l.bridges)
