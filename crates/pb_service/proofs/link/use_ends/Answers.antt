use Rattle.pb_service.specs.UsedPorts.{port_of}
use Rattle.pb_service.proofs.Distinctness.{used_next}
use Rattle.pb_service.proofs.link.use_ends.Goals as goal

pub returns-clause-once : goal.returns-clause-once
returns-clause-once c = λ once.
    used_next c.use_port.new.used.items c.use_port-2.new.used.items (port_of c.args.link.now.b)
    (used_next c.args.used.now.items c.use_port.new.used.items (port_of c.args.link.now.a) once
    c.in_ok-use_port.ensures.free c.in_ok-use_port.ensures.ok)
    c.in_ok-use_port-2.ensures.free c.in_ok-use_port-2.ensures.ok
