use Rattle.pb_converge.proofs.DriveLemmas.{done-plan}
use Rattle.pb_converge.proofs.FallLemmas.{fallen_from}
use Rattle.pb_converge.specs.Falls.{fresh, downs}
use Rattle.pb_cmd_survive.proofs.standing.raise.Goals as goal

pub bring_up-requires-clause-planned : goal.bring_up-requires-clause-planned
bring_up-requires-clause-planned c =
    let fallen = rw c.in-None.is at c.in_ok-fault.ensures.falls in
    done-plan (fresh c.args.plan.now) c.disables.new.net (downs c.args.plan.now c.args.names.now)
    (fallen_from c.args.plan.now c.args.names.now c.disables.new.net c.in_ok-net.ensures c.in_ok-fault.ensures.kept
    fallen)
