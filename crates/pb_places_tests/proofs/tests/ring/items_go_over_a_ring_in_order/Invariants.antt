use Rattle.std.proofs.Common.{false, [], ◌∷◌}
use Rattle.pb_ring.specs.Rings.{writer_name}
use Rattle.pb_places_tests.proofs.tests.ring.items_go_over_a_ring_in_order.Given as goal

abbrev pub ghosts-send_two : goal.ghosts-send_two
ghosts-send_two g a =
    let here = writer_name a.ring.0 in record {
      rings = here ∷ here ∷ here ∷ here ∷ here ∷ here ∷ [];
      keeps = false;
      sets = false;
      waits = false;
    }
