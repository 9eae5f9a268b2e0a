use Rattle.std.proofs.Common.{◌≡◌, ◌++◌, drop, flat_map, string_bytes}
use Rattle.pb_cmd_survive.specs.Reports.{later_text}
use Rattle.pb_cmd_survive.proofs.service_lines.put_later.Given as goal

abbrev pub invariant-loop-site : goal.invariant-loop-site
invariant-loop-site l =
    string_bytes l.out ++ flat_map (later_text l.plan l.sites) (drop l.site-index l.later) ≡ string_bytes
    l.initial.out ++ flat_map (later_text l.plan l.sites) l.later
