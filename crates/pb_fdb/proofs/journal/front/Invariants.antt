use Rattle.std.proofs.Common.{◌≡◌, length}
use Rattle.indexmap.specs.IndexMap.{get}
use Rattle.std.specs.VecDeque.{deque_capacity}
use Rattle.pb_fdb.specs.Journals.{is_same, entries_from, stations}
use Rattle.pb_fdb.proofs.journal.front.Given as goal

abbrev pub invariant-loop-place : goal.invariant-loop-place
invariant-loop-place l = record {
  entries : entries_from (get is_same l.index) l.first (stations l.log.items) ≡ entries_from (get is_same l.index)
      l.initial.first (stations l.initial.log.items);
  capacity : deque_capacity l.log ≡ deque_capacity l.initial.log;
}

abbrev pub decreases-loop-place : goal.decreases-loop-place
decreases-loop-place l = length l.log.items
