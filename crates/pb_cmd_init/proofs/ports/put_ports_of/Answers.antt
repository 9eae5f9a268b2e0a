use Rattle.std.proofs.Common.{◌+◌, string_bytes}
use Rattle.pb_cmd_init.specs.PlanTexts.{port_text}
use Rattle.pb_frame.proofs.TextLemmas.{numbers_more}
use Rattle.pb_cmd_init.proofs.ports.put_ports_of.Goals as goal

pub loop-before-preserved : goal.loop-before-preserved
loop-before-preserved c =
    numbers_more (port_text c.args.topology c.args.service) (c.loop-before.before + 1) c.loop-before.before _
    (string_bytes c.loop-before.out) _ _
    c.loop-before-test.true c.in_ok-put_port.ensures c.loop-before.invariant
