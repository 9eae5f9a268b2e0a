use Rattle.std.proofs.Common.{◌≡◌}
use Rattle.pb_run_ports.proofs.opened.forget_outs.Given as goal

abbrev pub invariant-loop-port : goal.invariant-loop-port
invariant-loop-port g l = g.O.Openings.done l.opener ≡ g.O.Openings.done l.initial.opener
