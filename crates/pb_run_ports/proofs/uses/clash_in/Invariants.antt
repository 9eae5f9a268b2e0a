use Rattle.std.proofs.Common.{◌≡◌, drop}
use Rattle.pb_run_ports.specs.Uses.{is_apart}
use Rattle.pb_run_ports.proofs.uses.clash_in.Given as goal

abbrev pub invariant-loop-index : goal.invariant-loop-index
invariant-loop-index l = is_apart l.uses ≡ is_apart (drop l.index l.uses)
