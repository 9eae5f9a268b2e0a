use Rattle.std.proofs.Common.{string_bytes}
use Rattle.pb_lan.specs.Ports.{local_ports}
use Rattle.pb_cmd_tree.specs.TreeTexts.{given_port_line}
use Rattle.pb_names.proofs.TextLemmas.{numbers_more}
use Rattle.pb_cmd_tree.proofs.given.put_bridge.Goals as goal

pub loop-place-preserved : goal.loop-place-preserved
loop-place-preserved c =
    numbers_more (given_port_line c.args.plan.now c.args.shape.now c.args.bridge) local_ports c.loop-place.place
    (string_bytes c.loop-place.out) (string_bytes c.put_port.new.out) _
    c.loop-place-test.true c.in_ok-put_port.ensures c.loop-place.invariant
