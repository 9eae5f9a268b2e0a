use Rattle.std.proofs.Common.{◌≡◌, ◌≤◌, ◌-◌}
use Rattle.pb_converge.specs.Drives.{is_onward, HaveGone}
use Rattle.pb_converge.proofs.draining.drain.Given as goal

abbrev pub invariant-sweeps : goal.invariant-sweeps
invariant-sweeps l = record {
  gone : HaveGone is_onward l.done l.fn.net l.net;
  within : l.done ≤ l.most;
  plan : l.net.plan ≡ l.plan;
}

abbrev pub decreases-sweeps : goal.decreases-sweeps
decreases-sweeps l = l.most - l.done
