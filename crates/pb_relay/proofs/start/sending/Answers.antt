use Rattle.std.proofs.Common.{arith, ap}
use Rattle.pb_relay.specs.declared.backlog.Capacity.{Capacity}
use Rattle.pb_relay.proofs.StandingLemmas.{capacity-small}
use Rattle.pb_relay.proofs.start.sending.Goals as goal

pub new-requires : goal.new-requires
new-requires c = omega (
  arith,
  ap (λ (z : Capacity). z.most) c.capacity.ensures,
  capacity-small c.args.plan.now
      c.args.number c.requires.sound,
)
