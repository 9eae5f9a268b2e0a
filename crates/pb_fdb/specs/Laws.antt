-- The law that connects tables with recorded events.
use Rattle.std.specs.Prelude.{◌≡◌, ℕ, ◌≤◌, List, [], ◌∷◌, ◌++◌}
use Rattle.pb_frame.specs.Stations.{News, Sighting, standing}
use Rattle.pb_frame.specs.Stations.News.{Seen, Flushed}
use Rattle.pb_frame.specs.declared.learnt.Learnt.{Learnt}
use Rattle.pb_frame.specs.declared.learnt.Learnt.TheVariants.{New, Kept, Moved, Full, Group, Memory}
use Rattle.pb_fdb.specs.Tables.{Table, empty_table, live, learnt_table, flushed, expired}

-- an operation on a table: a sighting is learnt with a result, a port is flushed, or aged entries are removed
pub data Deed : Type 0 where
  Learns : Sighting → Learnt → Deed
  Flushes : (port : ℕ) → Deed
  Expires : (now : ℕ) → Deed

-- the event that a result of learning records: none if the table did not take the sighting
abbrev pub noted : Sighting → Learnt → List News
noted s New = Seen s ∷ []
noted s Kept = Seen s ∷ []
noted s Moved = Seen s ∷ []
noted s Full = []
noted s Group = []
noted s Memory = []

-- the events that an operation records
abbrev pub news_of : Deed → List News
news_of (Learns s answer) = noted s answer
news_of (Flushes port) = Flushed port ∷ []
news_of (Expires now) = []

-- the table after an operation
abbrev pub done : Table → Deed → Table
done table (Learns s answer) = learnt_table table s answer
done table (Flushes port) = flushed table port
done table (Expires now) = expired table now

-- the moment of the operation is not before the table's clock
abbrev pub IsInTime : Table → Deed → Type 0
IsInTime table (Learns s answer) = table.clock ≤ s.moment
IsInTime table (Flushes port) = Unit {0}
IsInTime table (Expires now) = table.clock ≤ now

-- the operations lead from one table to another, and record these events
abbrev pub Leads : Table → List Deed → Table → List News → Type 0
Leads table [] last news = (last ≡ table) × (news ≡ [])
Leads table (d ∷ deeds) last news = IsInTime table d × ((later : List News) × Leads (done table d) deeds last later × (news ≡ news_of d ++ later))

-- from the clock on, the live sightings of the table are those in force by the events
abbrev pub TellsWhatStands : Table → List News → Type 0
TellsWhatStands table news = (now : ℕ) → table.clock ≤ now → live table now ≡ standing table.ageing now news

-- the above holds for every table, after any operations
abbrev pub TablesTellWhatStands : Type 0
TablesTellWhatStands = (limit ageing : ℕ) (deeds : List Deed) (table : Table) (news : List News) → Leads (empty_table limit ageing) deeds table news → TellsWhatStands table news
