use Rattle.std.proofs.Common.{◌≡◌, ◌++◌, length, map}
use Rattle.std.specs.List.{filter}
use Rattle.pb_frame.specs.Stations.{is_fresh}
use Rattle.pb_workers.specs.Stations.{station_seen}
use Rattle.pb_workers.proofs.stations.live_in.Given as goal

-- the stations so far, and after them those of the entries that remain, are those of all entries
abbrev pub invariant-loop-entry : goal.invariant-loop-entry
invariant-loop-entry l =
    l.list.items ++ map (station_seen l.now) (filter (is_fresh l.ageing l.now) l.rest)
    ≡ map (station_seen l.now) (filter (is_fresh l.ageing l.now) l.initial.rest)

abbrev pub decreases-loop-entry : goal.decreases-loop-entry
decreases-loop-entry l = length l.rest
