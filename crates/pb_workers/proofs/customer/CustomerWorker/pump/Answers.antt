use Rattle.std.proofs.Common.{refl}
use Rattle.pb_port.specs.declared.answers.Pumped.TheVariants.{Wrote, Fault}
use Rattle.pb_workers.proofs.PortLemmas.{keeps_pumped}
use Rattle.pb_workers.proofs.customer.CustomerWorker.pump.Goals as goal

pub returns-in-Wrote-clause-port : goal.returns-in-Wrote-clause-port
returns-in-Wrote-clause-port g c =
    let port = g.P.Port in
    let old = c.args.self.now.port in
    let new = c.pump.new.self in
    let pumped = c.in-Wrote.ensures in
    keeps_pumped (port.is_shelved old) (port.is_shelved new) (port.is_failed old) (port.is_failed new)
    (Wrote c.in-Wrote.field-0) (port.failed old) (port.failed new) c.requires pumped.pumped pumped.script.0
    pumped.script.1 pumped.tally.0 pumped.script.3 pumped.output pumped.shelved refl refl

pub returns-in-Fault-Memory-clause-port : goal.returns-in-Fault-Memory-clause-port
returns-in-Fault-Memory-clause-port g c =
    let port = g.P.Port in
    let old = c.args.self.now.port in
    let new = c.pump.new.self in
    let pumped = c.in-Fault-Memory.ensures in
    keeps_pumped (port.is_shelved old) (port.is_shelved new) (port.is_failed old) (port.is_failed new)
    (Fault c.in-Fault-Memory.field-0)
    (port.failed old) (port.failed new) c.requires pumped.pumped pumped.script.0 pumped.script.1 pumped.tally.0
    pumped.script.3 pumped.output pumped.shelved refl refl

pub returns-in_default-clause-port : goal.returns-in_default-clause-port
returns-in_default-clause-port g c =
    let port = g.P.Port in
    let old = c.args.self.now.port in
    let new = c.pump.new.self in
    let pumped = c.pump.ensures in
    keeps_pumped (port.is_shelved old) (port.is_shelved new) (port.is_failed old) (port.is_failed new)
    c.pump.result (port.failed old) (port.failed new) c.requires pumped.pumped pumped.script.0 pumped.script.1
    pumped.tally.0 pumped.script.3 pumped.output pumped.shelved refl refl

pub returns-in_default-2-clause-port : goal.returns-in_default-2-clause-port
returns-in_default-2-clause-port g c =
    let port = g.P.Port in
    let old = c.args.self.now.port in
    let new = c.pump.new.self in
    let pumped = c.pump.ensures in
    keeps_pumped (port.is_shelved old) (port.is_shelved new) (port.is_failed old) (port.is_failed new)
    c.pump.result (port.failed old) (port.failed new) c.requires pumped.pumped pumped.script.0 pumped.script.1
    pumped.tally.0 pumped.script.3 pumped.output pumped.shelved refl refl
