use Rattle.std.proofs.Common.{◌≤◌}
use Rattle.pb_bench_ports.proofs.copy.Given as goal

abbrev pub invariant-loop-polls : goal.invariant-loop-polls
invariant-loop-polls g l = l.count ≤ l.polls
