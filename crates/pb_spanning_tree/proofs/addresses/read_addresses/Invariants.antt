use Rattle.std.proofs.Common.{◌≡◌, length, drop}
use Rattle.std.specs.List.{AllByRecursion}
use Rattle.pb_frame.specs.Frames.{AreOctets}
use Rattle.pb_spanning_tree.proofs.addresses.read_addresses.Given as goal

-- if the remaining addresses have six octets, all have
abbrev pub invariant-loop-bridge : goal.invariant-loop-bridge
invariant-loop-bridge l =
    AllByRecursion (λ b. (length b.address.0 ≡ 6) × AreOctets b.address.0) (drop l.bridge-index l.bridge-items)
    → AllByRecursion (λ b. (length b.address.0 ≡ 6) × AreOctets b.address.0) l.bridge-items
