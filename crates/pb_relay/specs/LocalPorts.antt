-- The configuration of a bridge's local ports.
use Rattle.std.specs.Prelude.{◌≡◌, ℕ, ◌+◌, ◌<◌, List, length, slice_index_or, ◌==◌}
use Rattle.pb_lan.specs.Ports.{Port, port_at, vid_at, has_vid, serves}
use Rattle.pb_lan.specs.Ports.Port.{Customer, Provider, Unused}
use Rattle.pb_lan.specs.Plans.{IsSound}
use Rattle.pb_lan.specs.declared.plan.Plan.{Plan}
use Rattle.pb_relay.specs.Backlogs.{capacity_in}
use Rattle.pb_relay.specs.declared.backlog.Capacity.{Capacity}
use Rattle.pb_relay.specs.PortKinds.{LocalPort, serves_of}
use Rattle.pb_relay.specs.PortKinds.LocalPort.{ToCustomer, ToBridge, ToNobody}

-- the port is configured as the plan has it
abbrev pub IsKept : Plan → Port → LocalPort → Type 0
IsKept plan (Customer c) (ToCustomer vid pcp) = (vid ≡ vid_at plan c) × (pcp ≡ c.pcp) × ((v : ℕ) → (vid == v) ≡ has_vid plan v c.service)
IsKept plan (Provider e) (ToBridge start vids) = (start ≡ e.start) × ((v : ℕ) → serves_of vids v ≡ serves plan v e)
IsKept plan Unused ToNobody = Unit {0}
IsKept plan _ _ = ⊥

-- the bridge is configured as the plan has it: its ports, the most items at a port and the most steps
pub record IsConfigured (plan : Plan) (number : ℕ) (ports : List LocalPort) (capacity : Capacity) (limit : ℕ) : Type 0 where
  pub sound : IsSound plan
  pub count : length ports ≡ 16
  pub kept_ports : (r : ℕ) → r < 16 → IsKept plan (port_at plan number (r + 1)) (slice_index_or ports r ToNobody)
  pub most : capacity ≡ capacity_in plan number
  pub steps : limit ≡ plan.steps
