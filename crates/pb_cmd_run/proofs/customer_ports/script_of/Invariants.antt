use Rattle.std.proofs.Common.{◌≡◌}
use Rattle.pb_cmd_run.proofs.customer_ports.script_of.Given as goal

abbrev pub invariant-loop-frame : goal.invariant-loop-frame
invariant-loop-frame l = l.script.items ≡ l.yielded
