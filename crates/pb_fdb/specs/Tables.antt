-- A learning table: the sightings that it keeps, and how one more changes it.
use Rattle.std.specs.Prelude.{◌≡◌, ℕ, Bool, true, false, List, [], length, nat_le, Some, None, ◌==◌, if◌then◌else◌}
use Rattle.std.specs.declared.option.Option.{Option}
use Rattle.pb_frame.specs.Stations.{Sighting, live as live_sightings, where_in as port_in, after}
use Rattle.pb_frame.specs.Stations.News.{Seen, Flushed}
use Rattle.pb_frame.specs.declared.learnt.Learnt.{Learnt}
use Rattle.pb_frame.specs.declared.learnt.Learnt.TheVariants.{New, Kept, Moved, Full, Group, Memory}

-- the most stations, the ageing time, the latest moment of a call, and the sightings that are kept, in the order of
-- last learning
pub record Table : Type 0 where
  pub limit : ℕ
  pub ageing : ℕ
  pub clock : ℕ
  pub sightings : List Sighting

-- the table before anything was seen
abbrev pub empty_table : ℕ → ℕ → Table
empty_table limit ageing = record { limit = limit; ageing = ageing; clock = 0; sightings = [] }

-- the sighting with these parts
abbrev pub sighting_at : ℕ → List ℕ → ℕ → ℕ → Sighting
sighting_at vid mac port moment = record { vid = vid; mac = mac; port = port; moment = moment }

-- the sightings of the table that have not aged out
abbrev pub live : Table → ℕ → List Sighting
live table now = live_sightings table.ageing now table.sightings

-- the port of the station's live sighting, if there is one
abbrev pub where_in : Table → ℕ → ℕ → List ℕ → Option ℕ
where_in table now vid mac = port_in table.ageing now vid mac table.sightings

-- as many stations are live as the limit allows
abbrev pub is_full : Table → ℕ → Bool
is_full table now = nat_le table.limit (length (live table now))

-- the table at this moment, without the sightings that have aged out
abbrev pub expired : Table → ℕ → Table
expired table now = record table { clock = now; sightings = live table now }

-- the table without the sightings at a port
abbrev pub flushed : Table → ℕ → Table
flushed table port = record table { sightings = after table.sightings (Flushed port) }

-- the sightings that remain when one is added: if the limit is reached, those that have not aged out, otherwise all
abbrev pub with_room : Table → ℕ → List Sighting
with_room table now = if nat_le table.limit (length table.sightings) then live table now else table.sightings

-- the sightings after one was learnt with this result: a station that is learnt moves to the end
abbrev pub learnt_sightings : Table → Sighting → Learnt → List Sighting
learnt_sightings table s New = after (with_room table s.moment) (Seen s)
learnt_sightings table s Kept = after table.sightings (Seen s)
learnt_sightings table s Moved = after table.sightings (Seen s)
learnt_sightings table s Full = table.sightings
learnt_sightings table s Group = table.sightings
learnt_sightings table s Memory = table.sightings

-- the table after a sighting was learnt with this result
abbrev pub learnt_table : Table → Sighting → Learnt → Table
learnt_table table s answer = record table { clock = s.moment; sightings = learnt_sightings table s answer }
