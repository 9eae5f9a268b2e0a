use Rattle.std.proofs.Common.{sym, subst}
use Rattle.pb_lan.specs.Forests.{IsForest, Shows}
use Rattle.pb_lan.specs.LastShapes.{last_shape}
use Rattle.pb_lan.specs.Ports.{vid_at}
use Rattle.pb_forest.specs.ServiceVids.{vid_numbered}
use Rattle.pb_net_tests.proofs.tests.bench.arrives.Goals as goal

pub returns : goal.returns
returns c told rules mark entry lawful carried =
    let plan = c.args.plan.now in
    let rec = c.args.counts.now in
    let shape = last_shape plan rec in
    let shows = rw c.in-Some.is at c.in_ok-_rooted.ensures in
    let forest : IsForest plan shape (vid_numbered plan c.args.service) = (
      c.in-Some._rooted,
      subst (λ s. Shows plan s (vid_numbered plan c.args.service) c.in-Some._rooted)
          c.in_ok-shape.ensures shows,
    ) in
    let of_entry : IsForest plan shape (vid_at plan entry) = subst (λ n. IsForest plan shape (vid_numbered plan n))
    (sym carried.of_service) forest in
    c.frames_arrive_exactly_once.ensures rules plan rec c.requires lawful shape mark entry
    (record { planned = carried.planned; forest = of_entry; handled = carried.handled })
    ((c.is_drained.ensures rules plan c.requires lawful).0 told mark)
    carried.unhindered
