-- Entries as a log of stations, with an index of where each was last seen.
use Rattle.std.specs.Prelude.{◌≡◌, ℕ, ◌+◌, ◌-◌, ◌^◌, ◌≤◌, ◌%◌, ◌==◌, ◌&&◌, Bool, true, cond, not, List, [], ◌∷◌, ◌++◌, Some, None, length, map}
use Rattle.std.specs.declared.option.Option.{Option}
use Rattle.std.specs.List.{filter}
use Rattle.pb_frame.specs.Admission.{same}
use Rattle.pb_fdb.specs.declared.entry.Entry.{Entry}
use Rattle.pb_fdb.specs.declared.station.LastSeen.{LastSeen}
use Rattle.pb_fdb.specs.declared.station.LogEntry.{LogEntry}
use Rattle.pb_fdb.specs.declared.station.Station.{Station}

-- the station is this address in this service
abbrev pub is_station : ℕ → List ℕ → Station → Bool
is_station vid mac s = (vid == s.vid) && same mac s.mac.0

abbrev pub is_same : Station → Station → Bool
is_same a b = is_station a.vid a.mac.0 b

-- the entry of a station, by where it was last seen
abbrev pub entry_of : Station → LastSeen → Entry
entry_of s seen = record { vid = s.vid; mac = s.mac; port = seen.port; learnt = seen.learnt }

-- the entry is that of this station
abbrev pub is_of : Station → Entry → Bool
is_of s e = (s.vid == e.vid) && same s.mac.0 e.mac.0

-- an index: where each station was last seen, if it has an entry
abbrev pub Index : Type 0
Index = Station → Option LastSeen

-- the new index differs from the old at this station only
abbrev pub IsIndexWith : Station → Option LastSeen → Index → Index → Type 0
IsIndexWith s seen old new = (q : Station) → new q ≡ cond (is_same s q) seen (old q)

-- the place in a log that is `count` places after this one, modulo 2^64
abbrev pub place_after : ℕ → ℕ → ℕ
place_after at count = (at + count) % 2 ^ 64

-- the entry of a place, if the index has its station at this place, otherwise none
abbrev pub entry_at : ℕ → Station → Option LastSeen → List Entry
entry_at at s None = []
entry_at at s (Some seen) = cond (at == seen.at) (entry_of s seen ∷ []) []

-- the entries of a log that begins at this place
abbrev pub entries_from : Index → ℕ → List Station → List Entry
entries_from index at [] = []
entries_from index at (s ∷ ss) = entry_at at s (index s) ++ entries_from index (place_after at 1) ss

-- the stations at the places of a log
abbrev pub stations : List LogEntry → List Station
stations places = map (λ p. p.station) places

-- each station of the index has exactly one entry
abbrev pub HasEach : Index → List Entry → Type 0
HasEach index es = (s : Station) (seen : LastSeen) → index s ≡ Some seen → filter (is_of s) es ≡ entry_of s seen ∷ []

-- each station of the index has one entry, and the log has space for one more than these
pub record IsJournal (index : Index) (count room : ℕ) (es : List Entry) : Type 0 where
  pub each : HasEach index es
  pub counted : length es ≡ count
  pub roomy : count ≤ room - 1

-- the entry is not at this port, if a port is given
abbrev pub stays : Option ℕ → Entry → Bool
stays None e = true
stays (Some port) e = not (port == e.port)

-- the first place of a log had its turn: its entry is last if it stays, and all other entries are unchanged, also
-- those of each beginning of the remaining places
pub record HasTurned (keep : Entry → Bool) (old new : Index) (at : ℕ) (s : Station) (rest log : List Station) : Type 0 where
  pub kept : List Station
  pub log_is : log ≡ rest ++ kept
  pub kept_count : length kept ≡ length (filter keep (entry_at at s (old s)))
  pub entries : entries_from new (place_after at 1) log ≡ entries_from old (place_after at 1) rest ++ filter keep (entry_at at s (old s))
  pub fronts : (front back : List Station) → rest ≡ front ++ back → entries_from new (place_after at 1) front ≡ entries_from old (place_after at 1) front
