use Rattle.std.specs.Option.{option_to_list}
use Rattle.pb_rstp.proofs.TopologyLaws.{flushed_all}
use Rattle.pb_rstp.proofs.topology.flushed.Goals as goal

pub returns : goal.returns
returns c =
    flushed_all c.args.heard (option_to_list c.changed_at-changed.result) c.args.ports.now c.loop-p.p-index
    c.loop-p.numbers.items c.loop-p-test.false c.changed_at-changed.ensures c.loop-p.invariant
