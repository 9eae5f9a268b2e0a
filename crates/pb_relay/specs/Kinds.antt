-- The kinds of local ports.
use Rattle.std.specs.Prelude.{◌≡◌, ◌≤◌, ℕ, List, Bool, true, false, slice_index_or}
use Rattle.pb_relay.specs.declared.ports.Local.{Local}
use Rattle.pb_relay.specs.declared.ports.Local.TheVariants.{Customer, Bridge, Nobody}
use Rattle.pb_relay.specs.PortKinds.{LocalPort, told}
use Rattle.pb_relay.specs.PortKinds.LocalPort.{ToNobody}

-- the port is a customer port, by its kind
abbrev pub is_customer_told : Local → Bool
is_customer_told (Customer vid pcp) = true
is_customer_told (Bridge start) = false
is_customer_told Nobody = false

-- the port is a customer port
abbrev pub is_to_customer : LocalPort → Bool
is_to_customer port = is_customer_told (told port)

-- the port goes to another bridge, by its kind
abbrev pub is_bridge_told : Local → Bool
is_bridge_told (Customer vid pcp) = false
is_bridge_told (Bridge start) = true
is_bridge_told Nobody = false

-- the port goes to another bridge
abbrev pub is_to_bridge : LocalPort → Bool
is_to_bridge port = is_bridge_told (told port)

-- all ports from this index on are unused
abbrev pub IsNothingFrom : List LocalPort → ℕ → Type 0
IsNothingFrom ports place = (k : ℕ) → place ≤ k → slice_index_or ports k ToNobody ≡ ToNobody
