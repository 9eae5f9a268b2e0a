use Rattle.std.proofs.Common.{false, [], ◌∷◌}
use Rattle.pb_ring.specs.Rings.{writer_name}
use Rattle.pb_run_tests.proofs.tests.lanes.a_lane_takes_and_puts.Given as goal

abbrev pub ghosts-carry : goal.ghosts-carry
ghosts-carry g a = record {
  rings = writer_name a.from.0 ∷ writer_name a.to.0 ∷ [];
  keeps = false;
  sets = false;
  waits = false;
}
