use Rattle.std.proofs.Common.{◌≡◌, ◌++◌, length, map, take, drop}
use Rattle.pb_workers.specs.Recording.{own_lists, with_ready}
use Rattle.pb_workers.proofs.recording.commit_all.Given as goal

abbrev pub invariant-loop-index : goal.invariant-loop-index
invariant-loop-index g l = record {
  own : own_lists l.taps.items
      ≡ map with_ready (take l.index l.initial.taps.items) ++ own_lists (drop l.index l.initial.taps.items);
  rest : drop l.index l.taps.items ≡ drop l.index l.initial.taps.items;
  count : length l.taps.items ≡ length l.initial.taps.items;
}
