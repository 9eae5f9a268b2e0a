use Rattle.std.proofs.Common.{◌≡◌, ◌-◌, ◌++◌, flat_map, string_bytes}
use Rattle.std.specs.List.{range_with_len}
use Rattle.pb_run_losses.specs.Drops.{is_between, port_drops}
use Rattle.pb_run_losses.proofs.drops.put_bridge.Given as goal

-- the lines so far, followed by those of the remaining ports, are the lines of all ports
abbrev pub invariant-loop-port : goal.invariant-loop-port
invariant-loop-port l =
    string_bytes l.out ++ flat_map (λ port. port_drops l.name port l.tally (is_between l.plan l.number port)
    l.choice.late l.choice.lost) (range_with_len l.port (17 - l.port))
    ≡ string_bytes l.initial.out ++ flat_map (λ port. port_drops l.name port l.tally
    (is_between l.plan l.number port) l.choice.late l.choice.lost) (range_with_len 1 16)
