use Rattle.std.proofs.Common.{false, [], ◌∷◌}
use Rattle.pb_ring.specs.Rings.{writer_name}
use Rattle.pb_places_tests.proofs.tests.ring.each_place_has_its_ring.Given as goal

abbrev pub ghosts-use_two : goal.ghosts-use_two
ghosts-use_two g a = record {
  rings = writer_name a.first.0 ∷ writer_name a.second.0 ∷ [];
  keeps = false;
  sets = false;
  waits = false;
}
