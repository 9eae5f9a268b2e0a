use Rattle.std.proofs.Common.{◌↔◌, length}
use Rattle.std.specs.List.{IsDistinct}
use Rattle.pb_lan.specs.Plans.{is_same_port, ports_in}
use Rattle.pb_lan.proofs.sound.ports.ports_differ.Given as goal

abbrev pub invariant-loop-rest : goal.invariant-loop-rest
invariant-loop-rest l =
    IsDistinct is_same_port (ports_in l.fn.links l.customers) ↔ IsDistinct is_same_port (ports_in l.rest l.customers)

abbrev pub decreases-loop-rest : goal.decreases-loop-rest
decreases-loop-rest l = length l.rest
