use Rattle.std.proofs.Common.{drop, map}
use Rattle.pb_run_ports.specs.Deeds.{Begun}
use Rattle.pb_run_ports.specs.Opened.{emptied, shown}
use Rattle.pb_run_ports.proofs.opened.empty_outs.Given as goal

abbrev pub invariant-loop-place : goal.invariant-loop-place
invariant-loop-place g l = Begun (g.O.Openings.done l.initial.opener) (g.O.Openings.done l.opener)
    (emptied (map shown l.ports)) (emptied (map shown (drop l.place l.ports)))
