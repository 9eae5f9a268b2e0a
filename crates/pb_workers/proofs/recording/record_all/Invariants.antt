use Rattle.std.proofs.Common.{◌≡◌, length}
use Rattle.pb_workers.specs.Recording.{own_lists}
use Rattle.pb_workers.proofs.recording.record_all.Given as goal

abbrev pub invariant-loop-index : goal.invariant-loop-index
invariant-loop-index g l = record {
  own : own_lists l.taps.items ≡ own_lists l.initial.taps.items;
  count : length l.taps.items ≡ length l.initial.taps.items;
}
