use Rattle.std.proofs.Common.{◌≡◌, ◌+◌, ◌-◌, ◌++◌, flat_map, string_bytes}
use Rattle.std.specs.List.{range_with_len}
use Rattle.pb_cmd_init.specs.PlanTexts.{port_text}
use Rattle.pb_cmd_init.proofs.ports.put_ports_of.Given as goal

-- the text so far, and that of the numbers from here on, are the text of all
abbrev pub invariant-loop-before : goal.invariant-loop-before
invariant-loop-before l =
    string_bytes l.out
    ++ flat_map (port_text l.topology l.service) (range_with_len (l.before + 1) (l.before-end - l.before))
    ≡ string_bytes l.initial.out ++ flat_map (port_text l.topology l.service) (range_with_len 1 l.before-end)
