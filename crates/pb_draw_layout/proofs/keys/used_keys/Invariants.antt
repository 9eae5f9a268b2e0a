use Rattle.std.proofs.Common.{◌≡◌, ◌++◌, drop}
use Rattle.std.specs.List.{filter}
use Rattle.pb_draw_layout.specs.Keys.{is_used}
use Rattle.pb_draw_layout.proofs.keys.used_keys.Given as goal

-- the used signs so far, then those from here on, are all
abbrev pub invariant-loop-key : goal.invariant-loop-key
invariant-loop-key l =
    l.used.items ++ filter (is_used l.bridges l.links l.ports) (drop l.key-index l.keys)
    ≡ filter (is_used l.bridges l.links l.ports) l.keys
