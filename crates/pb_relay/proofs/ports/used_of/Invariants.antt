use Rattle.std.proofs.Common.{◌≡◌, ◌≤◌, ◌<◌, ℕ, slice_index_or}
use Rattle.pb_relay.specs.PortKinds.{locals}
use Rattle.pb_relay.specs.PortKinds.LocalPort.{ToNobody}
use Rattle.pb_relay.proofs.ports.used_of.Given as goal

abbrev pub invariant-loop-place : goal.invariant-loop-place
invariant-loop-place l = record {
  most : l.used ≤ l.place;
  nothing : (k : ℕ) → l.used ≤ k → k < l.place → slice_index_or (locals l.services l.starts) k ToNobody ≡ ToNobody;
}
