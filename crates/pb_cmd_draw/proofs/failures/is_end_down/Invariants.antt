use Rattle.std.proofs.Common.{◌≡◌, drop, string_bytes}
use Rattle.std.specs.List.{list_any}
use Rattle.pb_cmd_draw.specs.Failures.{disables_end, is_end_down}
use Rattle.pb_cmd_draw.proofs.failures.is_end_down.Given as goal

abbrev pub invariant-loop-name : goal.invariant-loop-name
invariant-loop-name l =
    list_any (λ w. disables_end l.plan (string_bytes w) l.link l.end) (drop l.name-index l.names)
    ≡ is_end_down l.plan l.names l.link l.end
