use Rattle.std.proofs.Common.{◌≡◌, ◌≤◌, All, true, length, map, vec_len, vec_capacity}
use Rattle.pb_lan.specs.PortLists.{IsLawfulPort}
use Rattle.std.specs.Vec.Iter.{into_iter_items}
use Rattle.pb_run.proofs.record.access_lists.Given as goal

abbrev pub invariant-loop-access : goal.invariant-loop-access
invariant-loop-access g l = record {
  steps : l.room.tallies.items ≡ map (λ d. d.place.steps) l.yielded;
  lawful : All (λ d. IsLawfulPort d.place.number d.place.steps) (into_iter_items l.access-iterator)
      → All (λ d. IsLawfulPort d.place.number d.place.steps) (into_iter_items l.initial.access-iterator);
  kept : g.W.Wiring.keeps ≡ true → l.room.lists.items ≡ map (λ d. d.place.steps) l.yielded;
  count : length l.room.lists.items ≡ length l.yielded;
  lists_room : vec_len l.fn.accesses ≤ vec_capacity l.room.lists;
  room : vec_len l.fn.accesses ≤ vec_capacity l.room.tallies;
}
