use Rattle.std.proofs.Common.{◌≡◌, ◌++◌, map, drop}
use Rattle.pb_cmd_survive.specs.Failures.{is_out}
use Rattle.pb_cmd_survive.specs.Groups.{is_port_out, color_of, site_of}
use Rattle.pb_cmd_survive.proofs.sites.sites_of.Given as goal

abbrev pub invariant-loop-port : goal.invariant-loop-port
invariant-loop-port l =
    l.sites.items ++ map (site_of (color_of l.plan l.marks (is_out l.plan l.names l.failure))
    (is_port_out l.plan (is_out l.plan l.names l.failure)) l.ports) (drop l.port-index l.ports)
    ≡ map (site_of (color_of l.plan l.marks (is_out l.plan l.names l.failure))
    (is_port_out l.plan (is_out l.plan l.names l.failure)) l.ports) l.ports
