use Rattle.std.proofs.Common.{◌≡◌, drop}
use Rattle.std.specs.List.{list_any}
use Rattle.pb_run_ports.specs.Uses.{clashes}
use Rattle.pb_run_ports.proofs.uses.clash_with.Given as goal

abbrev pub invariant-loop-later : goal.invariant-loop-later
invariant-loop-later l = list_any (clashes l.earlier) l.uses ≡ list_any (clashes l.earlier) (drop l.later-index l.uses)
