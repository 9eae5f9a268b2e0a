-- The topologies of a starter plan.
use Rattle.std.specs.Prelude.{ℕ, ◌+◌, ◌-◌, ◌*◌, ◌/◌, ◌%◌, ◌==◌, nat_le, min, if◌then◌else◌}
use Rattle.pb_cmd_init.specs.declared.topology.Ends.{Ends}
use Rattle.pb_cmd_init.specs.declared.topology.Topology.{Topology}
use Rattle.pb_cmd_init.specs.declared.topology.Topology.TheVariants.{Line, Ring, Star, DualHomed}

-- the number of access bridges, if n are wanted
abbrev pub access_count : ℕ → ℕ
access_count n = min n 24

-- the number of bridges; four are the core of dual-homed ones
abbrev pub bridge_count : Topology → ℕ
bridge_count (Line n) = n
bridge_count (Ring n) = n
bridge_count (Star n) = n
bridge_count (DualHomed n) = 4 + access_count n

-- the number of links
abbrev pub link_count : Topology → ℕ
link_count (Line n) = n - 1
link_count (Ring n) = n
link_count (Star n) = n - 1
link_count (DualHomed n) = 4 + 2 * access_count n

-- the number of sites: of bridges with customer ports
abbrev pub site_count : Topology → ℕ
site_count (Line n) = n
site_count (Ring n) = n
site_count (Star n) = n - 1
site_count (DualHomed n) = access_count n

-- the bridge after this one in a ring of n bridges
abbrev pub next_in_ring : ℕ → ℕ → ℕ
next_in_ring bridge n = if bridge == n then 1 else bridge + 1

-- access bridge 5 + j has two uplinks, the links 5 + 2j and 6 + 2j: from its ports 1 and 2 to the core bridges
-- j mod 4 + 1 and (j + 1) mod 4 + 1. A core bridge has the ports 3 and 4 for the first four access bridges, 5 and 6 for
-- the next four, and so on
abbrev pub uplink_of : ℕ → ℕ → Ends
uplink_of j side = record { a = (j + side) % 4 + 1; a_port = j / 4 * 2 + side + 3; b = 5 + j; b_port = side + 1 }

abbrev pub uplink_ends : ℕ → Ends
uplink_ends link = uplink_of ((link - 5) / 2) ((link - 5) % 2)

-- a link of a line or a ring goes from port 1 of a bridge to port 2 of the next
abbrev pub ring_ends : ℕ → ℕ → Ends
ring_ends n link = record { a = link; a_port = 1; b = next_in_ring link n; b_port = 2 }

-- a link of a star goes from the port of the centre that has its number to port 1 of another bridge; the links 1 to 4
-- of dual-homed bridges are the ring of the core
abbrev pub ends_of : Topology → ℕ → Ends
ends_of (Line n) link = record { a = link; a_port = 1; b = link + 1; b_port = 2 }
ends_of (Ring n) link = ring_ends n link
ends_of (Star n) link = record { a = 1; a_port = link; b = link + 1; b_port = 1 }
ends_of (DualHomed n) link = if nat_le link 4 then ring_ends 4 link else uplink_ends link

-- the bridge of a site; the centre of a star and the core of dual-homed bridges are none
abbrev pub site_bridge : Topology → ℕ → ℕ
site_bridge (Line n) site = site
site_bridge (Ring n) site = site
site_bridge (Star n) site = site + 1
site_bridge (DualHomed n) site = 4 + site
