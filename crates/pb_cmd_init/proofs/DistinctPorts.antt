-- No local port of a core bridge is used twice.
use Rattle.std.proofs.Common.{◌≡◌, ℕ, ◌+◌, ◌*◌, ◌/◌, ◌%◌, ◌<◌, arith}
use Rattle.pb_cmd_init.specs.Topologies.{uplink_of}

-- two uplinks with one port of one core bridge are on the same side of the same access bridge
same_side : (j k s t : ℕ) → s < 2 → t < 2 → j / 4 * 2 + s + 3 ≡ k / 4 * 2 + t + 3 → s ≡ t
same_side j k s t small little ports = omega arith

same_access : (j k s t : ℕ) → s < 2 → t < 2 → (j + s) % 4 + 1 ≡ (k + t) % 4 + 1
    → j / 4 * 2 + s + 3 ≡ k / 4 * 2 + t + 3 → j ≡ k
same_access j k s t small little bridges ports = omega arith

pub one_uplink_a_port : (j k s t : ℕ) → s < 2 → t < 2 → (uplink_of j s).a ≡ (uplink_of k t).a
    → (uplink_of j s).a_port ≡ (uplink_of k t).a_port → (j ≡ k) × (s ≡ t)
one_uplink_a_port j k s t small little bridges ports =
    (same_access j k s t small little bridges ports, same_side j k s t small little ports)
