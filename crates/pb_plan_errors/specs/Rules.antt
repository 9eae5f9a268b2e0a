-- The keys of tables, as pb_service and pb_accept read them.
use Rattle.std.specs.Prelude.{ℕ, false, List, [], ◌∷◌, ◌++◌, codes, if◌then◌else◌}
use Rattle.pb_frame.specs.Admission.{same}
use Rattle.pb_service.specs.Formats.{top_keys, network_keys, bridge_keys, link_keys, service_keys, event_keys, tap_keys, port_keys}
use Rattle.pb_service.specs.Keys.{names_of}

-- the keys of all kinds of customer ports: those of a port in memory, and those of the other kinds
abbrev pub all_port_keys : List (List ℕ)
all_port_keys =
    names_of (port_keys [] false false)
    ++ (codes "read" ∷ codes "replay" ∷ codes "speed" ∷ codes "write" ∷ codes "stamp" ∷ codes "path" ∷ codes "listen"
    ∷ codes "stay" ∷ codes "framing" ∷ codes "local" ∷ codes "remote" ∷ codes "encap" ∷ codes "vni" ∷ [])

-- the keys of an acceptance
abbrev pub accept_keys : List (List ℕ)
accept_keys = codes "link" ∷ codes "bridge" ∷ codes "links" ∷ codes "service" ∷ []

-- the keys of a table, by the key of the table or array of tables
unfoldable pub keys_of : List ℕ → List (List ℕ)
keys_of word =
    if same word (codes "network") then names_of network_keys else if same word (codes "bridge") then names_of bridge_keys
    else if same word (codes "link") then names_of link_keys else if same word (codes "service") then names_of service_keys
    else if same word (codes "port") then all_port_keys else if same word (codes "event") then names_of event_keys
    else if same word (codes "tap") then names_of tap_keys else if same word (codes "accept") then accept_keys else top_keys
