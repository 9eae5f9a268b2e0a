use Rattle.std.proofs.Common.{◌≡◌, ◌++◌, drop, map, string_bytes}
use Rattle.pb_run_losses.specs.Unwritten.{unwritten_lines}
use Rattle.pb_run_losses.proofs.unwritten.put_unwritten.Given as goal

abbrev pub invariant-loop-index : goal.invariant-loop-index
invariant-loop-index g l = string_bytes l.out
    ++ unwritten_lines (drop l.index l.customers) (map g.P.Port.waiting (drop l.index l.ports)) (drop l.index l.tallies)
    ≡ string_bytes l.initial.out
    ++ unwritten_lines l.customers (map g.P.Port.waiting l.ports) l.tallies
