use Rattle.std.proofs.Common.{◌≡◌, ◌++◌, List, length, drop}
use Rattle.std.specs.List.{filter}
use Rattle.std.specs.VecDeque.{deque_capacity}
use Rattle.indexmap.specs.IndexMap.{get, index_map_len}
use Rattle.pb_fdb.specs.declared.entry.Entry.{Entry}
use Rattle.pb_fdb.specs.declared.station.Station.{Station}
use Rattle.pb_fdb.specs.Journals.{is_same, entries_from, stations, stays, HasEach}
use Rattle.pb_fdb.proofs.journal.rotate.Given as goal

abbrev pub invariant-loop-turn : goal.invariant-loop-turn
invariant-loop-turn l = record {
  end : l._turn-end ≡ length (stations l.initial.log.items);
  gone : List Entry;
  behind : List Station;
  log : stations l.log.items ≡ drop l._turn (stations l.initial.log.items) ++ behind;
  all : entries_from (get is_same l.initial.index) l.initial.first (stations l.initial.log.items) ≡ gone
      ++ entries_from (get is_same l.index) l.first (drop l._turn (stations l.initial.log.items));
  entries : entries_from (get is_same l.index) l.first (stations l.log.items) ≡ entries_from (get is_same l.index)
      l.first (drop l._turn (stations l.initial.log.items)) ++ filter (stays l.port) gone;
  behind_count : length behind ≡ length (filter (stays l.port) gone);
  each : HasEach (get is_same l.index) (entries_from (get is_same l.index) l.first (stations l.log.items));
  count : length (entries_from (get is_same l.index) l.first (stations l.log.items)) ≡ index_map_len l.index;
  capacity : deque_capacity l.log ≡ deque_capacity l.initial.log;
}
