-- The stations that a bridge has learnt and not forgotten.
use Rattle.std.specs.Prelude.{ℕ, ◌-◌, List, map}
use Rattle.pb_frame.specs.Stations.{Sighting, standing}
use Rattle.pb_lan.specs.Choice.{now_after, news_of}
use Rattle.pb_relay.specs.declared.bridge.Bridge.{Bridge}
use Rattle.pb_threads.specs.declared.view.StationView.{StationView}

-- the station of a sighting, as it is shown at this moment
abbrev pub station_seen : ℕ → Sighting → StationView
station_seen now s = record { vid = s.vid; address = record { 0 = s.mac }; port = s.port; age = now - s.moment }

-- the stations that are in force after the steps that the bridge took: those last seen first come first
abbrev pub stations_of : Bridge → List StationView
stations_of bridge = map (station_seen (now_after bridge.steps))
    (standing bridge.plan.ageing (now_after bridge.steps) (news_of bridge.plan bridge.number bridge.steps))
