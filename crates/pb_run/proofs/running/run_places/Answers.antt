use Rattle.pb_run.proofs.Wiring.{all_named}
use Rattle.pb_run.proofs.running.run_places.Goals as goal

pub run_wired-requires-clause-rings : goal.run_wired-requires-clause-rings
run_wired-requires-clause-rings g c = λ lifetimes alive. record {
  new = c.in-Ok.ensures.new;
  named = all_named c.in-Ok.rings.items c.in-Ok.ensures.new;
  count = c.in-Ok.ensures.count;
}
