use Rattle.std.proofs.Common.{◌≡◌, ◌+◌, ℕ, Some, map, vec_len, slice_get}
use Rattle.pb_lan.specs.Records.{steps_of}
use Rattle.pb_rstp.specs.Ports.{Machine}
use Rattle.pb_rstp.specs.Profile.{machine_of}
use Rattle.pb_run.proofs.settled.machines_of.Given as goal

abbrev pub invariant-loop-worker : goal.invariant-loop-worker
invariant-loop-worker g l = record {
  counted : vec_len l.machines ≡ l.worker-index;
  each : (r : ℕ) (m : Machine) → slice_get (map (λ x. x.now) l.machines.items) r ≡ Some m
      → m ≡ machine_of l.plan (r + 1) (steps_of (map (λ b. b.bridge.steps) l.workers) (r + 1));
}
