-- The texts of the starter plan.
use Rattle.std.specs.Prelude.{ℕ, ◌+◌, ◌==◌, ◌&&◌, if◌then◌else◌, List, [], ◌∷◌, ◌++◌, flat_map, codes}
use Rattle.std.specs.Fmt.{decimal}
use Rattle.std.specs.List.{range_with_len}
use Rattle.pb_frame.specs.Hex.{mac_text}
use Rattle.pb_cmd_init.specs.Services.{service_count, service_name, service_vid, service_port, name_end}
use Rattle.pb_cmd_init.specs.Topologies.{bridge_count, link_count, site_count, ends_of, site_bridge}
use Rattle.pb_cmd_init.specs.declared.topology.Ends.{Ends}
use Rattle.pb_cmd_init.specs.declared.topology.Topology.{Topology}
use Rattle.pb_cmd_init.specs.declared.topology.Topology.TheVariants.{Line, Ring, Star, DualHomed}

-- the head of the file: what it is, and the next commands
abbrev pub head_text : List ℕ
head_text =
    codes "# A starter plan for pbnet. If this is the file FILE,\n"
    ++ codes "#\n"
    ++ codes "#   pbnet check FILE   validates the plan, and reports forwarding loops;\n"
    ++ codes "#   pbnet run FILE     runs the network, and counts the frames that enter and leave;\n"
    ++ codes "#   pbnet step FILE    drives the network event by event from a script on standard input.\n"
    ++ codes "#\n"
    ++ codes "# docs/PLAN_FILE.md describes every key, and pbnet help plan lists them. Remove a # directly before\n"
    ++ codes "# a key or a table to use it.\n"
    ++ codes "\n"
    ++ codes "[network]\n"

-- the keys of a network whose links form no loop
abbrev pub fixed_text : List ℕ
fixed_text =
    codes "# The links form no loop: each port between bridges is forwarding from the start. With these keys\n"
    ++ codes "# the bridges compute a spanning tree (RSTP) first:\n"
    ++ codes "#spanning = \"rstp\"\n"
    ++ codes "#prompt = true\n"
    ++ codes "#tick_ms = 10\n"
    ++ codes "#hold = 200\n"
    ++ codes "# With this key each traffic class of a port has a queue of its own:\n"
    ++ codes "#queues = \"class\"\n"

-- the keys of a network whose links form a loop: RSTP with a clock
abbrev pub rstp_text : List ℕ
rstp_text =
    codes "# The links form a loop. The spanning tree (RSTP) opens it: no frame circulates.\n"
    ++ codes "spanning = \"rstp\"\n"
    ++ codes "# A bridge sends its BPDUs as soon as its tree changes, and not with the next hello.\n"
    ++ codes "prompt = true\n"
    ++ codes "# Each traffic class has a queue of its own, and no flood drops the BPDUs.\n"
    ++ codes "queues = \"class\"\n"
    ++ codes "# The clock: a tick represents a second of the standard, and takes 10 milliseconds here. A\n"
    ++ codes "# large ring on a busy machine needs more.\n"
    ++ codes "tick_ms = 10\n"
    ++ codes "# No frame enters before 200 ticks, while the bridges converge.\n"
    ++ codes "hold = 200\n"

-- the keys of the network
abbrev pub keys_text : Topology → List ℕ
keys_text (Line n) = fixed_text
keys_text (Ring n) = rstp_text
keys_text (Star n) = fixed_text
keys_text (DualHomed n) = rstp_text

-- its other keys, as comments
abbrev pub further_text : List ℕ
further_text =
    codes "# The ticks until a learned station is forgotten, and the frames that wait between two places of a run:\n"
    ++ codes "#ageing = 300\n"
    ++ codes "#ring = 64\n"
    ++ codes "# The most steps of a place and turns of a thread, and, in place of tick_ms, the turns of a tick:\n"
    ++ codes "#steps = 1000000\n"
    ++ codes "#turns = 1000000000\n"
    ++ codes "#tick_every = 0\n"
    ++ codes "# What a run does at a full queue: true: frames wait; false: copies are lost; \"auto\": as true without sockets:\n"
    ++ codes "#lossless = \"auto\"\n"

-- the comment on bridges and links
abbrev pub places_text : List ℕ
places_text =
    codes "\n"
    ++ codes "# The bridges, each with an address and the ports 1 to 16, and the links between them.\n"

-- the further keys of the first bridge, as comments
abbrev pub bridge_keys_text : List ℕ
bridge_keys_text =
    codes "# The priority (the bridge with the least is the root of the tree), and the frames that wait at a port:\n"
    ++ codes "#priority = 32768\n"
    ++ codes "#queue = 64\n"

abbrev pub bridge_keys : ℕ → List ℕ
bridge_keys bridge = if bridge == 1 then bridge_keys_text else []

-- a bridge, whose address ends in its number
abbrev pub bridge_table : ℕ → List ℕ
bridge_table bridge =
    codes "\n[[bridge]]\nname = \"B" ++ decimal bridge
    ++ codes "\"\naddress = \"" ++ mac_text (2 ∷ 0 ∷ 0 ∷ 0 ∷ 0 ∷ bridge ∷ []) ++ codes "\"\n"

abbrev pub bridge_text : ℕ → List ℕ
bridge_text bridge = bridge_table bridge ++ bridge_keys bridge

-- the further keys of the first link, as comments
abbrev pub link_keys_text : List ℕ
link_keys_text =
    codes "# Of each end: path cost, port priority, state without RSTP, and services (default: all).\n"
    ++ codes "#a_cost = 20000\n"
    ++ codes "#b_cost = 20000\n"
    ++ codes "#a_priority = 128\n"
    ++ codes "#b_priority = 128\n"
    ++ codes "#a_state = \"forwarding\"\n"
    ++ codes "#b_state = \"forwarding\"\n"
    ++ codes "#a_services = [\"red\"]\n"
    ++ codes "#b_services = [\"red\"]\n"
    ++ codes "# Of both ends, in place of those keys of an end:\n"
    ++ codes "#cost = 20000\n"
    ++ codes "#services = [\"red\"]\n"
    ++ codes "# The numbers of the frames that the link loses from a to b, and back. The first frame has number 0.\n"
    ++ codes "#lost_ab = [0]\n"
    ++ codes "#lost_ba = [2, 3]\n"

abbrev pub link_keys : ℕ → List ℕ
link_keys link = if link == 1 then link_keys_text else []

-- a link between these ends
abbrev pub ends_text : ℕ → Ends → List ℕ
ends_text link ends =
    codes "\n[[link]]\nname = \"L" ++ decimal link
    ++ codes "\"\na = \"B" ++ decimal ends.a ++ codes "\"\na_port = " ++ decimal ends.a_port
    ++ codes "\nb = \"B" ++ decimal ends.b ++ codes "\"\nb_port = " ++ decimal ends.b_port ++ codes "\n"

abbrev pub link_text : Topology → ℕ → List ℕ
link_text topology link = ends_text link (ends_of topology link) ++ link_keys link

-- the comment on services
abbrev pub services_head : List ℕ
services_head =
    codes "\n"
    ++ codes "# A service connects customer ports: a frame that enters one of them can leave only the others of this\n"
    ++ codes "# service. Between bridges its frames have an S-tag with this VID, 1 to 4094.\n"

-- a service
abbrev pub service_text : ℕ → List ℕ
service_text service =
    codes "[[service]]\nname = \"" ++ service_name service ++ codes "\"\nvid = " ++ decimal (service_vid service)
    ++ codes "\n\n"

-- the comment on customer ports
abbrev pub ports_head : List ℕ
ports_head =
    codes "# The customer ports. Each is a port of a bridge.\n"

abbrev pub services_text : ℕ → List ℕ
services_text services = services_head ++ flat_map service_text (range_with_len 1 services) ++ ports_head

-- the further keys of the first customer port: the frame that enters there, and comments
abbrev pub first_port_text : List ℕ
first_port_text =
    codes "# The frames that enter here, in hexadecimal digits: one broadcast (destination, source, type, data).\n"
    ++ codes "in = [\"ffffffffffff02000000010108004142\"]\n"
    ++ codes "# The kind, the priority of frames without a priority tag, and the frames that wait for the device:\n"
    ++ codes "#kind = \"memory\"\n"
    ++ codes "#pcp = 0\n"
    ++ codes "#queue = 64\n"

abbrev pub first_text : ℕ → ℕ → List ℕ
first_text service site = if (service == 1) && (site == 1) then first_port_text else []

-- a customer port of a site, with the end of its name, its bridge, its local port and the name of its service
abbrev pub port_table : ℕ → List ℕ → ℕ → ℕ → List ℕ → List ℕ
port_table site end bridge port service =
    codes "\n[[port]]\nname = \"C" ++ decimal site ++ end ++ codes "\"\nbridge = \"B" ++ decimal bridge
    ++ codes "\"\nport = " ++ decimal port ++ codes "\nservice = \"" ++ service ++ codes "\"\n"

-- the customer port of a service at a site
abbrev pub port_text : Topology → ℕ → ℕ → List ℕ
port_text topology service site =
    port_table site (name_end service) (site_bridge topology site) (service_port service) (service_name service)
    ++ first_text service site

-- the customer ports of a service at all sites
abbrev pub ports_text : Topology → ℕ → List ℕ
ports_text topology service = flat_map (port_text topology service) (range_with_len 1 (site_count topology))

-- the comment on ports of other kinds
abbrev pub needs_text : List ℕ
needs_text =
    codes "\n"
    ++ codes "# Ports of other kinds: a capture port reads frames from one file (pcap) and writes to another, a replay\n"
    ++ codes "# port only reads one, a record port only writes one, and a socket port exchanges frames over a Unix\n"
    ++ codes "# socket. The file to read must exist, and a peer must listen. With listen in place of path the port\n"
    ++ codes "# creates the socket. With stay = true another peer may follow one that has left. A plan has at most 128\n"
    ++ codes "# customer ports. With replay = \"times\", which needs tick_ms, the frames of a file enter"
    ++ codes " as far apart as\n"
    ++ codes "# their times are, divided by speed.\n"
    ++ codes "# A udp port sends frames in UDP datagrams from local to remote, and receives them from there: each after a\n"
    ++ codes "# VXLAN header of the network vni or, with encap = \"none\", alone. With framing = 4 the lengths before the\n"
    ++ codes "# frames of a socket port have four octets, as in QEMU.\n"

-- a port between capture files, as a comment
abbrev pub capture_text : ℕ → ℕ → List ℕ
capture_text bridge port =
    codes "\n#[[port]]\n#name = \"capture\"\n#bridge = \"B" ++ decimal bridge
    ++ codes "\"\n#port = " ++ decimal port
    ++ codes "\n#service = \"red\"\n#kind = \"capture\"\n#read = \"in.pcap\"\n#write = \"out.pcap\"\n"
    ++ codes "#stamp = \"ticks\"\n"

-- a port at a socket, as a comment
abbrev pub socket_text : ℕ → ℕ → List ℕ
socket_text bridge port =
    codes "\n#[[port]]\n#name = \"socket\"\n#bridge = \"B" ++ decimal bridge
    ++ codes "\"\n#port = " ++ decimal port
    ++ codes "\n#service = \"red\"\n#kind = \"socket\"\n#path = \"port.sock\"\n#stay = false\n"

-- ports of other kinds at a bridge, at the local ports after those of the services
abbrev pub kinds_text : ℕ → ℕ → List ℕ
kinds_text bridge services =
    needs_text ++ capture_text bridge (services + 3) ++ socket_text bridge (services + 4)

-- an event, a tap and an acceptance, as comments
abbrev pub failures_of_links : List ℕ
failures_of_links =
    codes "\n"
    ++ codes "# An event of a run: at tick 300 of B1 its port 1 is disabled. With up = true it is enabled.\n"
    ++ codes "#[[event]]\n"
    ++ codes "#at = 300\n"
    ++ codes "#bridge = \"B1\"\n"
    ++ codes "#port = 1\n"
    ++ codes "#up = false\n"
    ++ codes "\n"
    ++ codes "# A capture of the frames that cross a link, S-tags and BPDUs included: both, or \"ab\" or \"ba\" alone.\n"
    ++ codes "#[[tap]]\n"
    ++ codes "#link = \"L1\"\n"
    ++ codes "#write = \"link.pcap\"\n"
    ++ codes "#direction = \"both\"\n"
    ++ codes "#stamp = \"ticks\"\n"
    ++ codes "\n"
    ++ codes "# A failure that survive accepts, for all services or for one. In place of link: bridge, or links\n"
    ++ codes "# with two names.\n"
    ++ codes "#[[accept]]\n"
    ++ codes "#link = \"L1\"\n"
    ++ codes "#service = \"red\"\n"

-- a network without links has none of them
abbrev pub failures_text : Topology → List ℕ
failures_text topology = if link_count topology == 0 then [] else failures_of_links

-- the whole file with its services
abbrev pub whole_text : Topology → ℕ → List ℕ
whole_text topology services =
    head_text ++ keys_text topology ++ further_text ++ places_text
    ++ flat_map bridge_text (range_with_len 1 (bridge_count topology))
    ++ flat_map (link_text topology) (range_with_len 1 (link_count topology))
    ++ services_text services
    ++ flat_map (ports_text topology) (range_with_len 1 services)
    ++ kinds_text (site_bridge topology 1) services
    ++ failures_text topology

-- the whole file with n services, or four
abbrev pub plan_text : Topology → ℕ → List ℕ
plan_text topology n = whole_text topology (service_count n)
