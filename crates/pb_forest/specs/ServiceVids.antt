-- The VIDs of services by their number.
use Rattle.std.specs.Prelude.{ℕ, unwrap_or}
use Rattle.std.specs.Option.{option_map}
use Rattle.pb_lan.specs.Numbering.{numbered}
use Rattle.pb_lan.specs.declared.plan.Plan.{Plan}

-- the VID of the service with this number, or 0, which names no VLAN, if there is none
abbrev pub vid_numbered : Plan → ℕ → ℕ
vid_numbered plan service = unwrap_or (option_map (λ s. s.vid) (numbered plan.services service)) 0
