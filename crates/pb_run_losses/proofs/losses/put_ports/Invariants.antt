use Rattle.std.proofs.Common.{◌≡◌, ◌-◌, ◌++◌, flat_map, string_bytes}
use Rattle.std.specs.List.{range_with_len}
use Rattle.pb_run_losses.specs.Losses.{port_lines}
use Rattle.pb_history.specs.Losses.{refused_by, dropped_by, counts_at}
use Rattle.pb_run_losses.proofs.losses.put_ports.Given as goal

-- the lines so far, followed by those of the remaining ports, are the lines of all ports
abbrev pub invariant-loop-port : goal.invariant-loop-port
invariant-loop-port l =
    string_bytes l.out ++ flat_map (λ port. port_lines l.name port (counts_at port (flat_map refused_by l.tally))
    (counts_at port (flat_map dropped_by l.tally))) (range_with_len l.port (17 - l.port))
    ≡ string_bytes l.initial.out
    ++ flat_map (λ port. port_lines l.name port (counts_at port (flat_map refused_by l.tally))
    (counts_at port (flat_map dropped_by l.tally))) (range_with_len 1 16)
