use Rattle.std.proofs.Common.{map}
use Rattle.pb_ring.specs.Rings.{writer_name}
use Rattle.pb_run.proofs.running.run_places.Given as goal

abbrev pub ghosts-run_wired : goal.ghosts-run_wired
ghosts-run_wired g a = record {
  rings = map (λ r. writer_name r.0) a.rings.items;
  keeps = a.mode.keeps;
  sets = a.mode.sets;
  waits = a.mode.waits;
}
