use Rattle.std.proofs.Common.{sym, subst}
use Rattle.pb_rstp.proofs.FittingLaws.{plan_ports_rise}
use Rattle.pb_rstp.specs.Readings.{AreAbove}
use Rattle.pb_relay.proofs.machine.started.Goals as goal

pub prompt-requires : goal.prompt-requires
prompt-requires c = subst (AreAbove 0) (sym c.in_ok-config.ensures.ports)
    (plan_ports_rise c.args.plan.now c.args.number)

pub new-requires : goal.new-requires
new-requires c = subst (AreAbove 0) (sym c.in_ok-config.ensures.ports)
    (plan_ports_rise c.args.plan.now c.args.number)
