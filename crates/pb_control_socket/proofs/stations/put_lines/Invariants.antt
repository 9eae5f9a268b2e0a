use Rattle.std.proofs.Common.{◌≡◌, ◌++◌, drop, flat_map, string_bytes}
use Rattle.pb_control_socket.specs.Texts.{station_line}
use Rattle.pb_control_socket.proofs.stations.put_lines.Given as goal

abbrev pub invariant-loop-station : goal.invariant-loop-station
invariant-loop-station l =
    string_bytes l.out ++ flat_map (station_line l.name) (drop l.station-index l.stations) ≡ string_bytes
    l.initial.out ++ flat_map (station_line l.name) l.stations
