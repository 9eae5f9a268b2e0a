-- The local ports that are in use.
use Rattle.std.specs.Prelude.{Bool, List, map}
use Rattle.std.specs.List.{list_any, IsDistinct}
use Rattle.pb_lan.specs.Plans.{is_same_port}
use Rattle.pb_lan.specs.declared.plan.End.{End}
use Rattle.pb_service.specs.declared.used.LocalPort.{LocalPort}

-- the port is in use
abbrev pub is_used : List LocalPort → LocalPort → Bool
is_used used port = list_any (λ p. is_same_port (p.bridge, p.port) (port.bridge, port.port)) used

-- no port is used twice
abbrev pub AreUsedOnce : List LocalPort → Type 0
AreUsedOnce used = IsDistinct is_same_port (map (λ p. (p.bridge, p.port)) used)

-- the local port of an end of a link
abbrev pub port_of : End → LocalPort
port_of e = record { bridge = e.bridge; port = e.port }
