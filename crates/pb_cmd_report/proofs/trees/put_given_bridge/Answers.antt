use Rattle.std.proofs.Common.{string_bytes}
use Rattle.pb_lan.specs.Ports.{local_ports}
use Rattle.pb_cmd_report.specs.Trees.{given_row}
use Rattle.pb_names.proofs.TextLemmas.{numbers_more}
use Rattle.pb_cmd_report.proofs.trees.put_given_bridge.Goals as goal

pub loop-place-preserved : goal.loop-place-preserved
loop-place-preserved c =
    numbers_more (given_row c.args.plan.now c.args.shape.now c.args.bridge) local_ports c.loop-place.place
    (string_bytes c.loop-place.out) (string_bytes c.put_given_port.new.out) _
    c.loop-place-test.true c.in_ok-put_given_port.ensures c.loop-place.invariant
