use Rattle.std.proofs.Common.{◌≡◌, ◌≤◌, All, true, length, map, vec_len, vec_capacity}
use Rattle.std.specs.List.{AllZip}
use Rattle.pb_lan.specs.LaneLists.{IsLawfulLane}
use Rattle.std.specs.Vec.Iter.{into_iter_items}
use Rattle.pb_workers.specs.Recording.{AreRecorded}
use Rattle.pb_run.proofs.record.lane_lists.Given as goal

abbrev pub invariant-loop-worker : goal.invariant-loop-worker
invariant-loop-worker g l = record {
  steps : l.room.tallies.items ≡ map (λ w. w.lane.steps) l.yielded;
  lawful : All (λ w. IsLawfulLane w.lane.losses w.lane.steps) (into_iter_items l.worker-iterator)
      → All (λ w. IsLawfulLane w.lane.losses w.lane.steps) (into_iter_items l.initial.worker-iterator);
  kept : g.W.Wiring.keeps ≡ true → l.room.lists.items ≡ map (λ w. w.lane.steps) l.yielded;
  count : length l.room.lists.items ≡ length l.yielded;
  lists_room : vec_len l.fn.workers ≤ vec_capacity l.room.lists;
  room : vec_len l.fn.workers ≤ vec_capacity l.room.tallies;
  taps : AllZip (λ t steps. AreRecorded t.items steps) l.taps_room.items l.room.tallies.items;
  taps_count : length l.taps_room.items ≡ length l.yielded;
  taps_capacity : vec_len l.fn.workers ≤ vec_capacity l.taps_room;
}
