use Rattle.pb_port.specs.declared.answers.Pumped.TheVariants.{Wrote}
use Rattle.pb_workers.proofs.PortLemmas.{has_pumped}
use Rattle.pb_workers.specs.Ports.{port_frames}
use Rattle.pb_cmd_run.proofs.UnsentLemmas.{pumped_on}
use Rattle.pb_cmd_run.proofs.linger.try_port.Goals as goal

pub returns-in-Wrote : goal.returns-in-Wrote
returns-in-Wrote g c =
    let port = g.P.Port in
    let old = c.args.port.now in
    let new = c.pump.new.self in
    pumped_on (port_frames port old) (port_frames port new)
    (has_pumped (Wrote c.in-Wrote.field-0) (port.waiting old) (port.waiting new) (port.is_failed old)
    (port.is_failed new) (port.failed old) (port.failed new) c.in-Wrote.ensures.pumped) c.in-Wrote.ensures.output

pub returns-in_default-2 : goal.returns-in_default-2
returns-in_default-2 g c =
    let port = g.P.Port in
    let old = c.args.port.now in
    let new = c.pump.new.self in
    pumped_on (port_frames port old) (port_frames port new)
    (has_pumped c.pump.result (port.waiting old) (port.waiting new) (port.is_failed old) (port.is_failed new)
    (port.failed old) (port.failed new) c.pump.ensures.pumped) c.pump.ensures.output

pub returns-in-Nothing : goal.returns-in-Nothing
returns-in-Nothing g c =
    let port = g.P.Port in
    let old = c.args.port.now in
    let new = c.pump.new.self in
    pumped_on (port_frames port old) (port_frames port new)
    (has_pumped c.pump.result (port.waiting old) (port.waiting new) (port.is_failed old) (port.is_failed new)
    (port.failed old) (port.failed new) c.pump.ensures.pumped) c.pump.ensures.output

pub returns-in_default : goal.returns-in_default
returns-in_default g c =
    let port = g.P.Port in
    let old = c.args.port.now in
    let new = c.pump.new.self in
    pumped_on (port_frames port old) (port_frames port new)
    (has_pumped c.pump.result (port.waiting old) (port.waiting new) (port.is_failed old) (port.is_failed new)
    (port.failed old) (port.failed new) c.pump.ensures.pumped) c.pump.ensures.output
