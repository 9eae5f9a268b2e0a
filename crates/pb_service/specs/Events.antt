-- The events of a document.
use Rattle.std.specs.Prelude.{◌≡◌, ℕ, codes, true, List, Some}
use Rattle.toml.specs.Data.{Members, get_member}
use Rattle.pb_service.specs.declared.event.PortEvent.{PortEvent}
use Rattle.pb_service.specs.declared.used.LocalPort.{LocalPort}
use Rattle.pb_service.specs.Tables.{number_at, text_at}
use Rattle.pb_service.specs.Told.{flag_told, number_from}
use Rattle.pb_service.specs.UsedPorts.{is_used}

-- the event that a table describes, among bridges of these names, at a port at which a link ends
pub record IsEventOf (bridges : List (List ℕ)) (ends : List LocalPort) (row : Members) (e : PortEvent) : Type 0 where
  pub at : e.at ≡ number_at row (codes "at") 0 4294967295
  pub bridge : number_from 1 bridges (text_at row (codes "bridge")) ≡ Some e.bridge
  pub port : e.port ≡ number_at row (codes "port") 0 16
  pub up : e.up ≡ flag_told (get_member (codes "up") row)
  pub end : is_used ends (record { bridge = e.bridge; port = e.port }) ≡ true
