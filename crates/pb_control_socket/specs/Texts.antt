-- The lines of replies.
use Rattle.std.specs.Prelude.{◌≡◌, ℕ, ◌+◌, ◌-◌, ◌*◌, ◌==◌, if◌then◌else◌, Bool, true, false, List, [], ◌∷◌, ◌++◌, Some, None}
use Rattle.std.specs.Prelude.{map, flat_map, unwrap_or, slice_index, codes}
use Rattle.std.specs.declared.option.Option.{Option}
use Rattle.std.specs.Fmt.{decimal}
use Rattle.pb_frame.specs.Hex.{mac_text}
use Rattle.pb_lan.specs.declared.plan.Plan.{Plan}
use Rattle.pb_lan.specs.Numbering.{numbered}
use Rattle.pb_lan.specs.Ports.{local_ports}
use Rattle.pb_messages.specs.Reasons.{drop_word}
use Rattle.pb_names.specs.Names.{role_word, state_word}
use Rattle.pb_rstp.specs.declared.role.Role.{Role}
use Rattle.pb_step_script.specs.Counts.{AreByName}
use Rattle.pb_threads.specs.declared.view.PortView.{PortView}
use Rattle.pb_threads.specs.declared.view.StationView.{StationView}

abbrev pub ok_line : List ℕ
ok_line = codes "ok" ++ 10 ∷ []

abbrev pub bad_line : List ℕ
bad_line = codes "bad" ++ 10 ∷ []

abbrev pub no_answer_line : List ℕ
no_answer_line = codes "no answer" ++ 10 ∷ []

-- the line of a customer port, and that of a bridge, from its name and two counts
abbrev pub port_line : List ℕ → ℕ × ℕ → List ℕ
port_line name counts = codes "port " ++ name ++ codes " entered " ++ decimal counts.0 ++ codes " left " ++ decimal counts.1 ++ 10 ∷ []

abbrev pub bridge_line : List ℕ → ℕ × ℕ → List ℕ
bridge_line name counts = codes "bridge " ++ name ++ codes " refused " ++ decimal counts.0 ++ codes " ticks " ++ decimal counts.1 ++ 10 ∷ []

-- the name of a role and a space, if there is a role
abbrev pub role_words : Option Role → List ℕ
role_words None = []
role_words (Some role) = role_word role ++ codes " "

-- the line of a bridge's port with this view, if it has one
abbrev pub view_line : List ℕ → ℕ → Option PortView → List ℕ
view_line name port None = []
view_line name port (Some view) = codes "port " ++ name ++ 32 ∷ decimal port ++ 32 ∷ role_words view.role ++ state_word view.state ++ 10 ∷ []

-- the line of one of a bridge's ports, and those of all, with these views
abbrev pub line_among : List ℕ → List (Option PortView) → ℕ → List ℕ
line_among name views port = view_line name port (unwrap_or (numbered views port) None)

abbrev pub view_lines : List ℕ → List (Option PortView) → List ℕ
view_lines name views = flat_map (line_among name views) local_ports

-- the line of a count of frames that a bridge's port dropped, if there are any
abbrev pub drop_line : List ℕ → ℕ → ℕ → ℕ → List ℕ
drop_line name port number count = if count == 0 then [] else
    (codes "bridge " ++ name ++ codes " port " ++ decimal port ++ 32 ∷ drop_word number ++ 32 ∷ decimal count
    ++ 10 ∷ [])

-- the line of a customer port whose peers come and go, by whether it has one. No other port has a line
abbrev pub peer_line : List ℕ → Option Bool → List ℕ
peer_line name None = []
peer_line name (Some true) = codes "peer " ++ name ++ codes " connected" ++ 10 ∷ []
peer_line name (Some false) = codes "peer " ++ name ++ codes " none" ++ 10 ∷ []

-- the beginning of the line of a station, with its VID and its address in its text form
abbrev pub station_name : (name : List ℕ) → (vid : ℕ) → (address : List ℕ) → List ℕ
station_name name vid address = codes "station " ++ name ++ 32 ∷ decimal vid ++ 32 ∷ address

-- the end of the line
abbrev pub port_and_age : StationView → List ℕ
port_and_age s = codes " port " ++ decimal s.port ++ codes " age " ++ decimal s.age ++ 10 ∷ []

-- the line of a station that the bridge of this name has learnt
abbrev pub station_line : List ℕ → StationView → List ℕ
station_line name s = station_name name s.vid (mac_text s.address.0) ++ port_and_age s

-- the numbers of the counts of a port
abbrev pub drop_numbers : List ℕ
drop_numbers = 0 ∷ 1 ∷ 2 ∷ 3 ∷ 4 ∷ 5 ∷ 6 ∷ 7 ∷ 8 ∷ 9 ∷ []

-- the count of this number of a local port: the counts of port 1 are the first ten, those of port 2 the next
abbrev pub drop_count : List ℕ → ℕ → ℕ → ℕ
drop_count counts port number = slice_index counts (10 * (port - 1) + number)

-- the lines of one of a bridge's ports, and those of all, with these counts
abbrev pub port_drops : List ℕ → List ℕ → ℕ → List ℕ
port_drops name counts port =
    flat_map (λ number. drop_line name port number (drop_count counts port number)) drop_numbers

abbrev pub drop_lines : List ℕ → List ℕ → List ℕ
drop_lines name counts = flat_map (port_drops name counts) local_ports

-- a line for each request
abbrev pub help_text : List ℕ
help_text =
    codes "stop             end the run and print its report\n"
    ++ codes "counts           frames that entered, left and found a full queue; peers\n"
    ++ codes "tree             role and state of each port between bridges\n"
    ++ codes "drops            frames that were dropped, by bridge, port and reason\n"
    ++ codes "stations BRIDGE  stations that a bridge has learnt, with port and age\n"
    ++ codes "down NAME        disable a link, a bridge or a port BRIDGE:PORT\n"
    ++ codes "up NAME          enable it again\n"
    ++ codes "help             print these lines\n"

-- the lines of each of these names and numbers, with the values that were returned for the number
abbrev pub AreLines : {A : Type 0} → (List ℕ → A → List ℕ) → (ℕ → A → Type 0) → List (List ℕ × ℕ) → List ℕ → Type 0
AreLines line told [] text = text ≡ []
AreLines {A} line told (thing ∷ things) text =
    (fact : A) × (others : List ℕ) × told thing.1 fact × (text ≡ line thing.0 fact ++ others) × AreLines line told things others

-- the lines of these names, in the order of the octets of the names
pub record AreLinesByName {A : Type 0} (line : List ℕ → A → List ℕ) (told : ℕ → A → Type 0) (names : List (List ℕ)) (text : List ℕ) : Type 0 where
  pub things : List (List ℕ × ℕ)
  pub by_name : AreByName names things
  pub are_lines : AreLines line told things text

-- a line for each customer port, one for each bridge, and one for each customer port whose peers come and go
pub record IsCountsText (plan : Plan) (told_port told_bridge : ℕ → ℕ × ℕ → Type 0)
    (told_peer : ℕ → Option Bool → Type 0) (text : List ℕ) : Type 0 where
  pub ports : List ℕ
  pub are_ports : AreLinesByName port_line told_port (map (λ c. c.name) plan.customers) ports
  pub bridges : List ℕ
  pub are_bridges : AreLinesByName bridge_line told_bridge (map (λ b. b.name) plan.bridges) bridges
  pub peers : List ℕ
  pub are_peers : AreLinesByName peer_line told_peer (map (λ c. c.name) plan.customers) peers
  pub text_is : text ≡ ports ++ bridges ++ peers

-- the lines of all ports between bridges
abbrev pub IsTreeText : Plan → (told_views : ℕ → List (Option PortView) → Type 0) → List ℕ → Type 0
IsTreeText plan told_views text = AreLinesByName view_lines told_views (map (λ b. b.name) plan.bridges) text

-- the lines of the dropped frames of all bridges
abbrev pub IsDropsText : Plan → (told_drops : ℕ → List ℕ → Type 0) → List ℕ → Type 0
IsDropsText plan told_drops text = AreLinesByName drop_lines told_drops (map (λ b. b.name) plan.bridges) text

-- the reply with the stations that the bridge of this name gave, in their order, or the line that it gave none
abbrev pub stations_reply : List ℕ → Option (List StationView) → List ℕ
stations_reply name None = no_answer_line
stations_reply name (Some stations) = flat_map (station_line name) stations ++ ok_line

-- the reply to `stations`, with the stations that were returned for the bridge of this name, or that there were none
abbrev pub IsStationsText : (name : List ℕ) → (told : Option (List StationView) → Type 0) → (text : List ℕ) → Type 0
IsStationsText name told text = (found : Option (List StationView)) × told found × (text ≡ stations_reply name found)
