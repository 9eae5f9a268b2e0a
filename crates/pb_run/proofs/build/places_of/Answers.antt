use Rattle.std.proofs.Common.{length, vec_len}
use Rattle.pb_run.specs.Wires.{HasOuter}
use Rattle.pb_run.proofs.EndsThere.{all_inner, all_outer, all_used}
use Rattle.pb_run.proofs.build.places_of.Goals as goal

pub bridge_workers-requires-clause-there : goal.bridge_workers-requires-clause-there
bridge_workers-requires-clause-there g c =
    all_inner c.in_ok-ends.ends.outlets.items c.in_ok-ends.ends.inlets.items (vec_len c.args.rings)
    (length c.args.plan.now.bridges) c.requires.rings.count c.in_ok-ends.ensures

pub lane_workers-requires-clause-there : goal.lane_workers-requires-clause-there
lane_workers-requires-clause-there g c =
    all_used (HasOuter c.bridge_workers.new.ends.outlets.items c.bridge_workers.new.ends.inlets.items) c.args.plan.now
    c.requires.sound
    (λ at bridge port. c.in_ok-bridges.ensures.outer at
    (all_outer c.in_ok-ends.ends.outlets.items c.in_ok-ends.ends.inlets.items (vec_len c.args.rings)
    (length c.args.plan.now.bridges) c.requires.rings.count c.in_ok-ends.ensures at bridge port))
