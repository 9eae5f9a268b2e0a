use Rattle.pb_relay.proofs.MachineLemmas.{rstp_ports_more}
use Rattle.pb_relay.proofs.machine.rstp_ports.Goals as goal

pub loop-r-preserved : goal.loop-r-preserved
loop-r-preserved c =
    rstp_ports_more c.args.plan.now c.args.number c.loop-r.r c.loop-r.ports.items _ _ c.loop-r-test.true
    c.loop-r.invariant c.rstp_port.ensures c.in_ok-add.ensures
