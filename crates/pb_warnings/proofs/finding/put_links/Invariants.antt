use Rattle.std.proofs.Common.{◌≡◌, ◌+◌, ◌++◌, map, drop}
use Rattle.pb_lan.specs.Numbering.{numbers_from}
use Rattle.pb_warnings.specs.declared.warning.Warning.TheVariants.{Unequal}
use Rattle.pb_warnings.proofs.finding.put_links.Given as goal

-- what was appended and what remains is what is to be appended
abbrev pub invariant-loop-place : goal.invariant-loop-place
invariant-loop-place l =
    l.out.items ++ map Unequal (numbers_from (l.place + 1) (drop l.place l.links)) ≡ l.initial.out.items
    ++ map Unequal (numbers_from 1 l.links)
