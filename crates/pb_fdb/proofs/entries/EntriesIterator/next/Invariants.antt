use Rattle.std.proofs.Common.{◌≡◌, length}
use Rattle.indexmap.specs.IndexMap.{get}
use Rattle.std.specs.VecDeque.Iter.{deque_iter_rest}
use Rattle.pb_fdb.specs.Journals.{is_same, entries_from, stations}
use Rattle.pb_fdb.proofs.entries.EntriesIterator.next.Given as goal

abbrev pub invariant-loop-place : goal.invariant-loop-place
invariant-loop-place l = record {
  index : l.self-inside.index ≡ l.initial.self-inside.index;
  entries : entries_from (get is_same l.self-inside.index.now) l.self-inside.at
      (stations (deque_iter_rest l.self-inside.log)) ≡ entries_from (get is_same l.initial.self-inside.index.now)
      l.initial.self-inside.at (stations (deque_iter_rest l.initial.self-inside.log));
}

abbrev pub decreases-loop-place : goal.decreases-loop-place
decreases-loop-place l = length (deque_iter_rest l.self-inside.log)
