use Rattle.std.proofs.Common.{◌≡◌, ◌+◌, ◌<◌, ℕ, [], Some, length, slice_get}
use Rattle.std.specs.Vec.Iter.{into_iter_items}
use Rattle.rtrb.specs.Ring.{sent, received, IsPair}
use Rattle.pb_ring.specs.Rings.{writer_name, reader_name}
use Rattle.pb_run.specs.Wires.{IsThere}
use Rattle.pb_run.proofs.wires.ends_of.Given as goal

abbrev pub invariant-loop-ring : goal.invariant-loop-ring
invariant-loop-ring g l = record {
  counted : length l.inlets.items ≡ length l.outlets.items;
  sending : (n : ℕ) (o : _) → slice_get l.outlets.items n ≡ Some (Some o) → (o.number ≡ n) × (sent o.end ≡ []);
  receiving : (n : ℕ) (i : _) → slice_get l.inlets.items n ≡ Some (Some i) → (i.number ≡ n) × (received i.end ≡ []);
  outlets_there : (n : ℕ) → n < length l.outlets.items → IsThere l.outlets.items n;
  inlets_there : (n : ℕ) → n < length l.inlets.items → IsThere l.inlets.items n;
  come : length l.outlets.items + length (into_iter_items l.ring-iterator) ≡ length
      (into_iter_items l.initial.ring-iterator);
  new : (n : ℕ) (ring : _) → slice_get (into_iter_items l.ring-iterator) n ≡ Some ring → IsPair ring.0 ring.1
      × (sent ring.0 ≡ []) × (received ring.1 ≡ []);
  named : (n : ℕ) (ring : _) → slice_get (into_iter_items l.ring-iterator) n ≡ Some ring
      → (slice_get g.W.Wiring.rings (length l.outlets.items + n) ≡ Some (writer_name ring.0))
      × (slice_get g.W.Wiring.rings (length l.outlets.items + n) ≡ Some (reader_name ring.1));
}
