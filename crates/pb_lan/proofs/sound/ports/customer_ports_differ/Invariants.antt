use Rattle.std.proofs.Common.{◌↔◌, map, length}
use Rattle.std.specs.List.{IsDistinct}
use Rattle.pb_lan.specs.Plans.{is_same_port}
use Rattle.pb_lan.proofs.sound.ports.customer_ports_differ.Given as goal

abbrev pub invariant-loop-rest : goal.invariant-loop-rest
invariant-loop-rest l =
    IsDistinct is_same_port (map (λ c. (c.bridge, c.port)) l.fn.customers) ↔ IsDistinct is_same_port
    (map (λ c. (c.bridge, c.port)) l.rest)

abbrev pub decreases-loop-rest : goal.decreases-loop-rest
decreases-loop-rest l = length l.rest
