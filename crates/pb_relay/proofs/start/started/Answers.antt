use Rattle.std.proofs.Common.{ap, ◌∙◌, refl, arith}
use Rattle.pb_fdb.specs.Tables.{Table}
use Rattle.pb_relay.specs.Backlogs.{BacklogView}
use Rattle.pb_relay.proofs.StartLemmas.{started}
use Rattle.pb_relay.proofs.start.started.Goals as goal

pub invariant_of-result : goal.invariant_of-result
invariant_of-result c =
    let keeps = c.in_ok-kept.ensures.ports in
    let states = c.start_states-states.ensures in
    rw (c.in_ok-kept.ensures.plan, c.requires.none, c.requires.unreserved) (
      record {
        sound = c.requires.sound;
        count = keeps.count;
        kept_ports = keeps.kept;
        most = ap (λ (o : BacklogView). o.capacity) c.in_ok-backlog.ensures.backlog;
        steps = refl;
      },
      started c.args.plan.now c.args.number _ c.start_states-states.result c.in_ok-backlog.backlog.ports
          c.new.result.sightings
          keeps states (ap (λ (o : BacklogView). o.ports) c.in_ok-backlog.ensures.backlog)
          (ap (λ (t : Table). t.sightings) c.new.ensures),
      record { within = omega arith; reserved = λ t. absurd cc },
      rw c.new.ensures (record { limit = refl; ageing = refl; in_time = omega arith }),
      record { kept_machine = c.in_ok-backlog.ensures.machine; kept_address = c.address.ensures },
      ap (λ (o : BacklogView). o.is_kept) c.in_ok-backlog.ensures.backlog ∙ c.are_kept.ensures,
    )
