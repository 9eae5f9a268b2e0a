use Rattle.std.proofs.Common.{◌≡◌, ◌<◌, ◌≤◌, ◌+◌, ℕ, [], map, vec_len, slice_index_or}
use Rattle.rtrb.specs.Ring.{sent, received}
use Rattle.pb_ring.specs.Rings.{shown_at}
use Rattle.pb_run.specs.Wires.{ring_into, ring_out, HasInner, HasOuter}
use Rattle.pb_run.proofs.build.sides_of.Given as goal

abbrev pub invariant-loop-place : goal.invariant-loop-place
invariant-loop-place g l = record {
  count : (vec_len l.inlets ≡ l.place) × (vec_len l.outlets ≡ l.place);
  into : (q : ℕ) → q < l.place → slice_index_or (map (λ i. i.number) l.inlets.items) q 0 ≡ ring_into l.bridge (q + 1);
  out : (q : ℕ) → q < l.place → slice_index_or (map (λ o. o.number) l.outlets.items) q 0 ≡ ring_out l.bridge (q + 1);
  received : (q : ℕ) → shown_at (λ i. received i.end) l.inlets.items q ≡ [];
  sent : (q : ℕ) → shown_at (λ o. sent o.end) l.outlets.items q ≡ [];
  there : (port : ℕ) → l.place < port → port ≤ 16 → HasInner l.ends.outlets.items l.ends.inlets.items (l.bridge, port);
  inner : (at : ℕ × ℕ) → (at.0 ≡ l.bridge → ⊥) → HasInner l.initial.ends.outlets.items l.initial.ends.inlets.items at
      → HasInner l.ends.outlets.items l.ends.inlets.items at;
  outer : (at : ℕ × ℕ) → HasOuter l.initial.ends.outlets.items l.initial.ends.inlets.items at
      → HasOuter l.ends.outlets.items l.ends.inlets.items at;
}
