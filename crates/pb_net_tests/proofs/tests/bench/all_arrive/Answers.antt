use Rattle.std.proofs.Common.{sym, subst}
use Rattle.pb_lan.specs.Forests.{IsForest, Shows}
use Rattle.pb_lan.specs.Ports.{vid_at}
use Rattle.pb_lan.specs.Shapes.{start_shape}
use Rattle.pb_forest.specs.ServiceVids.{vid_numbered}
use Rattle.pb_net_tests.proofs.tests.bench.all_arrive.Goals as goal

pub returns : goal.returns
returns c told fixed unset rules mark entry lawful unhindered =
    let plan = c.args.plan.now in
    let rec = c.args.counts.now in
    let shows = rw c.in-Some.is at c.in_ok-_rooted.ensures in
    let forest : IsForest plan (start_shape plan) (vid_numbered plan c.args.service) = (
      c.in-Some._rooted,
      subst (λ s. Shows plan s (vid_numbered plan c.args.service) c.in-Some._rooted)
          c.in_ok-shape.ensures shows,
    ) in
    let of_entry : IsForest plan (start_shape plan) (vid_at plan entry) =
    subst (λ n. IsForest plan (start_shape plan) (vid_numbered plan n)) (sym unhindered.of_service) forest in
    let still = c.planned_states_stay.ensures rules plan rec fixed lawful unset in
    let traced = c.still_frames_are_traced.ensures rules plan rec lawful still mark entry unhindered.planned of_entry in
    c.frames_arrive_exactly_once.ensures rules plan rec c.requires lawful (start_shape plan) mark entry traced
    ((c.is_drained.ensures rules plan c.requires lawful).0 told mark)
    unhindered.unhindered
