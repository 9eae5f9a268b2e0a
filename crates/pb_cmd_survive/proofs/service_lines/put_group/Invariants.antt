use Rattle.std.proofs.Common.{◌≡◌, ◌++◌, drop, flat_map, string_bytes}
use Rattle.pb_cmd_survive.specs.Reports.{member_text, group_text}
use Rattle.pb_cmd_survive.proofs.service_lines.put_group.Given as goal

abbrev pub invariant-loop-site : goal.invariant-loop-site
invariant-loop-site l =
    string_bytes l.out ++ flat_map (member_text l.plan l.group) (drop l.site-index l.sites) ≡ string_bytes
    l.initial.out ++ group_text l.plan l.sites l.group
