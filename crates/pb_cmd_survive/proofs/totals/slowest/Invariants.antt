use Rattle.std.proofs.Common.{◌≡◌, max, drop}
use Rattle.pb_cmd_survive.specs.Reports.{slowest}
use Rattle.pb_cmd_survive.proofs.totals.slowest.Given as goal

abbrev pub invariant-loop-impact : goal.invariant-loop-impact
invariant-loop-impact l = max l.most (slowest (drop l.impact-index l.impacts)) ≡ slowest l.impacts
