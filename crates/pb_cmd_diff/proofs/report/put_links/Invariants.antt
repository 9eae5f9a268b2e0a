use Rattle.std.proofs.Common.{◌≡◌, ◌+◌, ◌++◌, drop, flat_map, string_bytes}
use Rattle.pb_lan.specs.Numbering.{numbers_from}
use Rattle.pb_cmd_diff.specs.Reports.{ends_line}
use Rattle.pb_cmd_diff.proofs.report.put_links.Given as goal

abbrev pub invariant-loop-place : goal.invariant-loop-place
invariant-loop-place l =
    string_bytes l.out ++ flat_map (ends_line l.old l.new l.olds l.news)
    (numbers_from (l.place + 1) (drop l.place l.old.links))
    ≡ string_bytes l.initial.out ++ flat_map (ends_line l.old l.new l.olds l.news) (numbers_from 1 l.old.links)
