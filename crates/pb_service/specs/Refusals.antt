-- When a document is refused, and with which fault.
use Rattle.std.specs.Prelude.{◌≡◌, ◌≤◌, ◌<◌, ◌⊎◌, ℕ, codes, Bool, true, false, ◌||◌, List, [], ◌∷◌, ◌++◌, length, take, slice_get, is_some, Some, None, unwrap_or}
use Rattle.std.specs.declared.option.Option.{Option}
use Rattle.std.specs.Fmt.{decimal}
use Rattle.std.specs.List.{flat_map}
use Rattle.std.specs.Option.{option_map_or}
use Rattle.pb_frame.specs.Admission.{same}
use Rattle.pb_frame.specs.Hex.{IsMacText, mac_text}
use Rattle.toml.specs.Data.{Data, Items, Members, get_member, as_table}
use Rattle.pb_lan.specs.declared.limits.Limits.{Limits}
use Rattle.pb_service.specs.declared.fault.PlanFault.{PlanFault}
use Rattle.pb_service.specs.declared.fault.PlanFault.TheVariants.{Kind, Range, Unknown, Twice, NoSuch, LinkEnd, TooMany, Memory}
use Rattle.pb_service.specs.declared.section.Section.{Section}
use Rattle.pb_service.specs.declared.section.Section.TheVariants.{Bridge, Link, Service, Port, Event, Tap}
use Rattle.pb_service.specs.declared.section.KeyTable.TheVariants.{Network, Row}
use Rattle.pb_service.specs.declared.used.LocalPort.{LocalPort}
use Rattle.pb_service.specs.UsedPorts.{is_used}
use Rattle.pb_service.specs.Sections.{word_of, most_of, path_at}
use Rattle.pb_service.specs.Values.{all_items, any_item, is_list, text_in}
use Rattle.pb_service.specs.Keys.{RefusesRow, SomeOf, first_unknown}
use Rattle.pb_service.specs.Formats.{top_keys, network_keys, event_keys, tap_keys, keys_of}
use Rattle.pb_service.specs.Told.{rows_of, has_key, names_in, number_from, table_told, spanning_of}
use Rattle.pb_service.specs.Clocks.{lacks_time, lacks_clock, RefusesClocks, RefusesPrompt}
use Rattle.pb_service.specs.Tables.{number_at, text_at, items_at, is_one_of, doubled_key, has_vain_speed, HasTwoFamilies, limits_told, prompt_told}

-- there is no value, or it is a table
abbrev pub is_table : Option Data → Bool
is_table value = option_map_or (λ d. is_some (as_table d)) value true

-- there is no value, or it is an array of tables
abbrev pub is_array_of_tables : Option Data → Bool
is_array_of_tables value = option_map_or (is_list (all_items (λ d. is_some (as_table d)))) value true

-- the document has an array of tables at the key, or nothing, and the tables are not too many
pub record HasTables (document : Members) (section : Section) : Type 0 where
  pub tables : is_array_of_tables (get_member (word_of section) document) ≡ true
  pub few : length (rows_of document section) ≤ most_of section

-- the names of the tables of an array
abbrev pub names_of : Members → Section → List (List ℕ)
names_of document section = names_in (rows_of document section)

-- the keys that name a bridge
abbrev pub names_bridge : Section → List ℕ → Bool
names_bridge Link key = same key (codes "a") || same key (codes "b")
names_bridge Port key = same key (codes "bridge")
names_bridge section key = false

-- the keys that list services
abbrev pub lists_services : List ℕ → Bool
lists_services key = same key (codes "services") || (same key (codes "a_services") || same key (codes "b_services"))

-- the local port that two keys of a table give, one for the bridge and one for the number
abbrev pub port_told : List (List ℕ) → Members → List ℕ → List ℕ → LocalPort
port_told bridges row bridge port = record { bridge = unwrap_or (number_from 1 bridges (text_at row bridge)) 0; port = number_at row port 0 16 }

abbrev pub link_ports : List (List ℕ) → Members → List LocalPort
link_ports bridges row = port_told bridges row (codes "a") (codes "a_port") ∷ port_told bridges row (codes "b") (codes "b_port") ∷ []

abbrev pub customer_ports : List (List ℕ) → Members → List LocalPort
customer_ports bridges row = port_told bridges row (codes "bridge") (codes "port") ∷ []

-- the local ports that a document uses, those of links first
abbrev pub ports_told : Members → List LocalPort
ports_told document =
    flat_map (link_ports (names_of document Bridge)) (rows_of document Link)
    ++ flat_map (customer_ports (names_of document Bridge)) (rows_of document Port)

-- the local ports at which the links of a document end
abbrev pub ends_told : Members → List LocalPort
ends_told document = flat_map (link_ports (names_of document Bridge)) (rows_of document Link)

-- the key of a table names something that doesn't exist
abbrev pub LacksName : List (List ℕ) → Members → List ℕ → PlanFault → Type 0
LacksName names row key fault = (fault ≡ NoSuch (text_at row key)) × (number_from 1 names (text_at row key) ≡ None)

-- an event breaks a rule of its keys, names a bridge that doesn't exist, or a port at which no link ends
abbrev pub RefusesEvent : List (List ℕ) → List LocalPort → ℕ → Members → PlanFault → Type 0
RefusesEvent bridges ends index row fault =
    (fault ≡ Memory) ⊎ (RefusesRow event_keys (Row Event index) row fault ⊎ (LacksName bridges row (codes "bridge") fault
    ⊎ ((fault ≡ Range (path_at (Row Event index) (codes "port"))) × (is_used ends (port_told bridges row (codes "bridge") (codes "port")) ≡ false))))

-- a tap breaks a rule of its keys, names a link that doesn't exist, or its records are to have the time of day and no
-- clock ticks by time
abbrev pub RefusesTap : List (List ℕ) → Limits → ℕ → Members → PlanFault → Type 0
RefusesTap links limits index row fault =
    (fault ≡ Memory) ⊎ (RefusesRow tap_keys (Row Tap index) row fault ⊎ (LacksName links row (codes "link") fault
    ⊎ ((fault ≡ Range (path_at (Row Tap index) (codes "stamp"))) × (lacks_time limits (text_at row (codes "stamp")) ≡ true))))

-- a local port of an existing bridge occurs a second time in the list
pub record UsesTwice (ports : List LocalPort) (port : LocalPort) : Type 0 where
  pub before : List LocalPort
  pub behind : List LocalPort
  pub stands : ports ≡ before ++ port ∷ behind
  pub again : is_used before port ≡ true
  pub bridge : 1 ≤ port.bridge

-- the table of the network breaks a rule of its keys, or its keys contradict each other
abbrev pub RefusesNetwork : Members → PlanFault → Type 0
RefusesNetwork row fault =
    RefusesRow network_keys Network row fault
    ⊎ (RefusesClocks (limits_told row) fault ⊎ RefusesPrompt (spanning_of (text_at row (codes "spanning"))) (prompt_told row) fault)

-- the limits of a run that the document gives
abbrev pub network_limits : Members → Limits
network_limits document = limits_told (table_told (get_member (codes "network") document))

-- the document breaks the rule that the fault names
pub data Refuses : Members → PlanFault → Type 0 where
  other_key : (document : Members) (key : List ℕ) → first_unknown top_keys document ≡ Some key → Refuses document (Unknown key)
  no_network : (document : Members) (d : Data) → get_member (codes "network") document ≡ Some d → as_table d ≡ None → Refuses document (Kind (codes "network"))
  in_network : (document : Members) (fault : PlanFault) → RefusesNetwork (table_told (get_member (codes "network") document)) fault → Refuses document fault
  no_tables : (document : Members) (section : Section) → is_array_of_tables (get_member (word_of section) document) ≡ false → Refuses document (Kind (word_of section))
  too_many : (document : Members) (section : Section) → most_of section < length (rows_of document section) → Refuses document TooMany
  in_table : (document : Members) (section : Section) (index : ℕ) (row : Members) (fault : PlanFault)
      → slice_get (rows_of document section) index ≡ Some row → RefusesRow (keys_of section row) (Row section index) row fault → Refuses document fault
  same_name : (document : Members) (section : Section) (index : ℕ) (row : Members)
      → slice_get (rows_of document section) index ≡ Some row → is_one_of (take index (names_of document section)) (text_at row (codes "name")) ≡ true
      → Refuses document (Twice (text_at row (codes "name")))
  same_address : (document : Members) (index : ℕ) (row : Members) (octets : List ℕ)
      → slice_get (rows_of document Bridge) index ≡ Some row → IsMacText (text_at row (codes "address")) octets
      → SomeOf (λ earlier. IsMacText (text_at earlier (codes "address")) octets) (take index (rows_of document Bridge)) → Refuses document (Twice (mac_text octets))
  same_vid : (document : Members) (index : ℕ) (row : Members) (vid : ℕ)
      → slice_get (rows_of document Service) index ≡ Some row → number_at row (codes "vid") 0 4094 ≡ vid
      → SomeOf (λ earlier. number_at earlier (codes "vid") 0 4094 ≡ vid) (take index (rows_of document Service)) → Refuses document (Twice (decimal vid))
  no_bridge : (document : Members) (section : Section) (index : ℕ) (row : Members) (key : List ℕ)
      → slice_get (rows_of document section) index ≡ Some row → names_bridge section key ≡ true
      → number_from 1 (names_of document Bridge) (text_at row key) ≡ None → Refuses document (NoSuch (text_at row key))
  no_service : (document : Members) (index : ℕ) (row : Members)
      → slice_get (rows_of document Port) index ≡ Some row
      → number_from 1 (names_of document Service) (text_at row (codes "service")) ≡ None → Refuses document (NoSuch (text_at row (codes "service")))
  no_listed : (document : Members) (index : ℕ) (row : Members) (key name : List ℕ)
      → slice_get (rows_of document Link) index ≡ Some row → lists_services key ≡ true
      → any_item (λ d. same name (text_in d)) (items_at row key) ≡ true
      → is_one_of (names_of document Service) name ≡ false → Refuses document (NoSuch name)
  doubled : (document : Members) (index : ℕ) (row : Members) (key : List ℕ)
      → slice_get (rows_of document Link) index ≡ Some row → doubled_key row ≡ Some key
      → Refuses document (Range (path_at (Row Link index) key))
  used_twice : (document : Members) (port : LocalPort) → UsesTwice (ports_told document) port → Refuses document LinkEnd
  no_time : (document : Members) (index : ℕ) (row : Members)
      → slice_get (rows_of document Port) index ≡ Some row → lacks_time (network_limits document) (text_at row (codes "stamp")) ≡ true
      → Refuses document (Range (path_at (Row Port index) (codes "stamp")))
  no_clock : (document : Members) (index : ℕ) (row : Members)
      → slice_get (rows_of document Port) index ≡ Some row → lacks_clock (network_limits document) (has_key row (codes "replay")) ≡ true
      → Refuses document (Range (path_at (Row Port index) (codes "replay")))
  vain_speed : (document : Members) (index : ℕ) (row : Members)
      → slice_get (rows_of document Port) index ≡ Some row → has_vain_speed row ≡ true
      → Refuses document (Range (path_at (Row Port index) (codes "speed")))
  two_families : (document : Members) (index : ℕ) (row : Members)
      → slice_get (rows_of document Port) index ≡ Some row → HasTwoFamilies row
      → Refuses document (Range (path_at (Row Port index) (codes "remote")))
  in_event : (document : Members) (index : ℕ) (row : Members) (fault : PlanFault)
      → slice_get (rows_of document Event) index ≡ Some row → RefusesEvent (names_of document Bridge) (ends_told document) index row fault → Refuses document fault
  in_tap : (document : Members) (index : ℕ) (row : Members) (fault : PlanFault)
      → slice_get (rows_of document Tap) index ≡ Some row → RefusesTap (names_of document Link) (network_limits document) index row fault → Refuses document fault
  no_memory : (document : Members) → Refuses document Memory

-- a table breaks a rule of its keys, or has the name of an earlier table
abbrev pub RefusesTable : Section → List (List ℕ) → ℕ → Members → PlanFault → Type 0
RefusesTable section names index row fault =
    RefusesRow (keys_of section row) (Row section index) row fault
    ⊎ ((fault ≡ Twice (text_at row (codes "name"))) × (is_one_of (take index names) (text_at row (codes "name")) ≡ true))

-- the name is listed, and nothing has it
pub record IsUnlisted (names : List (List ℕ)) (listed : Items) (name : List ℕ) : Type 0 where
  pub stands : any_item (λ d. same name (text_in d)) listed ≡ true
  pub unknown : is_one_of names name ≡ false

abbrev pub LacksListed : List (List ℕ) → Items → PlanFault → Type 0
LacksListed names listed fault = (name : List ℕ) × (fault ≡ NoSuch name) × IsUnlisted names listed name

-- a link has a key of an end beside that for both ends, or an allocation failed
abbrev pub DoublesKey : ℕ → Members → PlanFault → Type 0
DoublesKey index row fault =
    (fault ≡ Memory) ⊎ ((key : List ℕ) × (doubled_key row ≡ Some key) × (fault ≡ Range (path_at (Row Link index) key)))

-- a link lists a service that doesn't exist
abbrev pub LinkListsNone : List (List ℕ) → Members → PlanFault → Type 0
LinkListsNone services row fault =
    LacksListed services (items_at row (codes "services")) fault
    ⊎ (LacksListed services (items_at row (codes "a_services")) fault ⊎ LacksListed services (items_at row (codes "b_services")) fault)

-- a link has such a key, names a bridge or a service that doesn't exist, or an allocation failed
abbrev pub RefusesLink : List (List ℕ) → List (List ℕ) → ℕ → Members → PlanFault → Type 0
RefusesLink bridges services index row fault =
    DoublesKey index row fault ⊎ ((LacksName bridges row (codes "a") fault ⊎ LacksName bridges row (codes "b") fault)
    ⊎ LinkListsNone services row fault)

abbrev pub CustomerLacks : List (List ℕ) → List (List ℕ) → Members → PlanFault → Type 0
CustomerLacks bridges services row fault =
    (fault ≡ Memory) ⊎ (LacksName bridges row (codes "bridge") fault ⊎ LacksName services row (codes "service") fault)

-- the records of a written capture are to have the time of day and no clock ticks by time, or an allocation failed
abbrev pub RefusesStamp : Limits → ℕ → Members → PlanFault → Type 0
RefusesStamp limits index row fault =
    (fault ≡ Memory) ⊎ ((fault ≡ Range (path_at (Row Port index) (codes "stamp"))) × (lacks_time limits (text_at row (codes "stamp")) ≡ true))

-- frames are to enter by the times of their records and no clock ticks by time, a speed is given without that, or an
-- allocation failed
abbrev pub RefusesPace : Limits → ℕ → Members → PlanFault → Type 0
RefusesPace limits index row fault =
    (fault ≡ Memory)
    ⊎ (((fault ≡ Range (path_at (Row Port index) (codes "replay"))) × (lacks_clock limits (has_key row (codes "replay")) ≡ true))
    ⊎ ((fault ≡ Range (path_at (Row Port index) (codes "speed"))) × (has_vain_speed row ≡ true)))

-- a port has such a pace or such a stamp
abbrev pub RefusesFiles : Limits → ℕ → Members → PlanFault → Type 0
RefusesFiles limits index row fault = RefusesPace limits index row fault ⊎ RefusesStamp limits index row fault

-- the two addresses of a port are of different families, or an allocation failed
abbrev pub RefusesRemote : ℕ → Members → PlanFault → Type 0
RefusesRemote index row fault =
    (fault ≡ Memory) ⊎ ((fault ≡ Range (path_at (Row Port index) (codes "remote"))) × HasTwoFamilies row)

-- a port has such a pace, such a stamp or such addresses
abbrev pub RefusesPort : Limits → ℕ → Members → PlanFault → Type 0
RefusesPort limits index row fault = RefusesFiles limits index row fault ⊎ RefusesRemote index row fault
