-- Entries as sightings.
use Rattle.std.specs.Prelude.{ℕ, ◌<◌, ◌≤◌, List, [], ◌∷◌, length, map, nat_le, not, if◌then◌else◌}
use Rattle.std.specs.List.{AllByRecursion, filter}
use Rattle.pb_frame.specs.Stations.{Sighting, is_fresh, overrides}
use Rattle.pb_frame.specs.Stations.News.{Seen}
use Rattle.pb_fdb.specs.Tables.{Table}
use Rattle.pb_fdb.specs.declared.entry.Entry.{Entry}

-- the sighting of an entry
abbrev pub sighting_of : Entry → Sighting
sighting_of e = record { vid = e.vid; mac = e.mac.0; port = e.port; moment = e.learnt }

-- the sightings of the entries
abbrev pub sightings : List Entry → List Sighting
sightings es = map sighting_of es

-- the table with these entries
abbrev pub table_of : ℕ → ℕ → ℕ → List Entry → Table
table_of limit ageing clock es = record { limit = limit; ageing = ageing; clock = clock; sightings = sightings es }

-- the entries without those of the new one's station
abbrev pub without_station : Entry → List Entry → List Entry
without_station new es = filter (λ e. not (overrides (sighting_of e) (Seen (sighting_of new)))) es

-- the entries that have not aged out
abbrev pub fresh_entries : ℕ → ℕ → List Entry → List Entry
fresh_entries ageing now es = filter (λ e. is_fresh ageing now (sighting_of e)) es

-- the entries that remain when one is added: if the limit is reached, those that have not aged out, otherwise all
abbrev pub entries_with_room : ℕ → ℕ → ℕ → List Entry → List Entry
entries_with_room limit ageing now es = if nat_le limit (length es) then fresh_entries ageing now es else es

-- the entries are in the order of last learning
abbrev pub InOrder : List Entry → Type 0
InOrder [] = Unit {0}
InOrder (e ∷ es) = AllByRecursion (λ f. e.learnt ≤ f.learnt) es × InOrder es

-- a table may keep these entries: they are within the limit, in order, and none is learnt after the clock
pub record IsKept (limit ageing clock : ℕ) (es : List Entry) : Type 0 where
  pub ageing_is : 0 < ageing
  pub fits : length es ≤ limit
  pub order : InOrder es
  pub before : AllByRecursion (λ e. e.learnt ≤ clock) es
