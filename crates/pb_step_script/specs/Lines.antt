-- The event that a script line asks for.
use Rattle.std.specs.Prelude.{◌≡◌, ◌⊎◌, ℕ, ◌<◌, ◌≤◌, Bool, true, false, List, Some, length, codes}
use Rattle.pb_frame.specs.Hex.{IsHex}
use Rattle.pb_lan.specs.Names.{is_name}
use Rattle.pb_lan.specs.Records.{lane_ab, lane_ba}
use Rattle.pb_lan.specs.declared.event.Event.{Event}
use Rattle.pb_lan.specs.declared.event.Event.TheVariants.{Poll, Feed, Deliver, Receive, Transmit, Tick, Admin, Take, Put}
use Rattle.pb_lan.specs.declared.plan.Plan.{Plan}
use Rattle.pb_step_script.specs.Named.{bridge_named, link_named, customer_named}
use Rattle.pb_step_script.specs.Verbs.{verb_word}
use Rattle.pb_messages.specs.Words.{cut, port_of, local_port}
use Rattle.pb_step_script.specs.declared.verb.Verb.{Verb}
use Rattle.pb_step_script.specs.declared.verb.Verb.TheVariants.{Poll as poll, Feed as feed, Deliver as deliver, Receive as receive, Transmit as transmit, Tick as tick, Admin as admin, Take as take, Put as put}

-- `NAME HEX`: a frame of at least one octet, at a customer port
pub record IsFrameAt (plan : Plan) (words : List ℕ) (port : ℕ) (frame : List ℕ) : Type 0 where
  pub name : List ℕ
  pub hex : List ℕ
  pub parts : cut words ≡ Some (name, hex)
  pub is_named : is_name name ≡ true
  pub port_is : port ≡ customer_named plan name
  pub octets : IsHex hex frame
  pub some : 0 < length frame

-- `BRIDGE PORT`: a local port of a bridge
pub record IsBridgePort (plan : Plan) (words : List ℕ) (bridge port : ℕ) : Type 0 where
  pub name : List ℕ
  pub digits : List ℕ
  pub number : ℕ
  pub parts : cut words ≡ Some (name, digits)
  pub is_named : is_name name ≡ true
  pub spelled : port_of digits ≡ Some number
  pub bridge_is : bridge ≡ bridge_named plan name
  pub port_is : port ≡ local_port number

-- `up` enables and `down` disables
abbrev pub IsWay : List ℕ → Bool → Type 0
IsWay word up = ((word ≡ codes "up") × (up ≡ true)) ⊎ ((word ≡ codes "down") × (up ≡ false))

-- `BRIDGE PORT up` or `BRIDGE PORT down`: a local port of a bridge, and whether to enable it
pub record IsBridgeWay (plan : Plan) (words : List ℕ) (bridge port : ℕ) (up : Bool) : Type 0 where
  pub name : List ℕ
  pub rest : List ℕ
  pub digits : List ℕ
  pub way : List ℕ
  pub number : ℕ
  pub parts : cut words ≡ Some (name, rest)
  pub others : cut rest ≡ Some (digits, way)
  pub is_named : is_name name ≡ true
  pub spelled : port_of digits ≡ Some number
  pub is_way : IsWay way up
  pub bridge_is : bridge ≡ bridge_named plan name
  pub port_is : port ≡ local_port number

-- `LINK ab` or `LINK ba`: a lane of a link
pub record IsLinkLane (plan : Plan) (words : List ℕ) (lane : ℕ) : Type 0 where
  pub name : List ℕ
  pub way : List ℕ
  pub parts : cut words ≡ Some (name, way)
  pub is_named : is_name name ≡ true
  pub lane_is : ((way ≡ codes "ab") × (lane ≡ lane_ab (link_named plan name))) ⊎ ((way ≡ codes "ba") × (lane ≡ lane_ba (link_named plan name)))

-- the event that the arguments after the verb ask for, in which a name or port that the plan lacks has the number 0,
-- which no part has
abbrev pub AsksFor : Plan → Verb → List ℕ → Event → Type 0
AsksFor plan poll words event = (port : ℕ) × (frame : List ℕ) × IsFrameAt plan words port frame × (event ≡ Poll port frame)
AsksFor plan feed words event = (is_name words ≡ true) × (event ≡ Feed (customer_named plan words))
AsksFor plan deliver words event = (is_name words ≡ true) × (event ≡ Deliver (customer_named plan words))
AsksFor plan receive words event = (bridge : ℕ) × (port : ℕ) × IsBridgePort plan words bridge port × (event ≡ Receive bridge port)
AsksFor plan transmit words event = (bridge : ℕ) × (port : ℕ) × IsBridgePort plan words bridge port × (event ≡ Transmit bridge port)
AsksFor plan tick words event = (is_name words ≡ true) × (event ≡ Tick (bridge_named plan words))
AsksFor plan admin words event = (bridge : ℕ) × (port : ℕ) × (up : Bool) × IsBridgeWay plan words bridge port up × (event ≡ Admin bridge port up)
AsksFor plan take words event = (lane : ℕ) × IsLinkLane plan words lane × (event ≡ Take lane)
AsksFor plan put words event = (lane : ℕ) × IsLinkLane plan words lane × (event ≡ Put lane)

-- the line is valid, and asks for the event
pub record Asks (limit : ℕ) (plan : Plan) (line : List ℕ) (event : Event) : Type 0 where
  pub short : length line ≤ limit
  pub verb : Verb
  pub words : List ℕ
  pub parts : cut line ≡ Some (verb_word verb, words)
  pub asks : AsksFor plan verb words event
