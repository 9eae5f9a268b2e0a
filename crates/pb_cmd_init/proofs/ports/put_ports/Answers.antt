use Rattle.std.proofs.Common.{◌+◌, string_bytes}
use Rattle.pb_cmd_init.specs.PlanTexts.{ports_text}
use Rattle.pb_frame.proofs.TextLemmas.{numbers_more}
use Rattle.pb_cmd_init.proofs.ports.put_ports.Goals as goal

pub loop-before-preserved : goal.loop-before-preserved
loop-before-preserved c =
    numbers_more (ports_text c.args.topology) (c.loop-before.before + 1) c.loop-before.before _
    (string_bytes c.loop-before.out) _ _
    c.loop-before-test.true c.in_ok-put_ports_of.ensures c.loop-before.invariant
