use Rattle.std.proofs.Common.{◌≡◌, ◌++◌, flat_map, map, take, string_bytes}
use Rattle.pb_lan.specs.Ports.{ends_of}
use Rattle.pb_converge.specs.Falls.{end_name}
use Rattle.pb_converge.proofs.suggesting.put_ports.Given as goal

abbrev pub invariant-loop-link : goal.invariant-loop-link
invariant-loop-link l =
    map string_bytes l.names.items ≡ map string_bytes l.initial.names.items
    ++ map (end_name l.plan) (flat_map ends_of (take l.link-index l.plan.links))
