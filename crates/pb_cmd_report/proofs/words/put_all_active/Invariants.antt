use Rattle.std.proofs.Common.{◌≡◌, ◌++◌, drop, flat_map, string_bytes}
use Rattle.pb_cmd_report.specs.Words.{active_text}
use Rattle.pb_cmd_report.proofs.words.put_all_active.Given as goal

abbrev pub invariant-loop-link : goal.invariant-loop-link
invariant-loop-link l =
    string_bytes l.out ++ flat_map (active_text l.plan l.shape l.vid) (drop l.link-index l.plan.links) ≡ string_bytes
    l.initial.out
    ++ flat_map (active_text l.plan l.shape l.vid) l.plan.links
