-- The request of a line of the control socket.
use Rattle.std.specs.Prelude.{◌≡◌, ◌≢◌, ◌⊎◌, ℕ, ◌+◌, Bool, true, false, ◌==◌, not, List, [], ◌∷◌, map, take, drop}
use Rattle.std.specs.Prelude.{Option, Some, Result, Ok, Err, codes}
use Rattle.std.specs.List.{position}
use Rattle.std.specs.Option.{option_map}
use Rattle.pb_lan.specs.Names.{is_name}
use Rattle.pb_lan.specs.Ports.{port_at, is_provider}
use Rattle.pb_lan.specs.declared.plan.Plan.{Plan}
use Rattle.pb_lan.specs.declared.plan.End.{End}
use Rattle.pb_step_script.specs.Lines.{IsBridgePort}
use Rattle.pb_step_script.specs.Named.{bridge_named}
use Rattle.pb_messages.specs.Words.{cut, port_of, local_port}
use Rattle.pb_control_socket.specs.Parts.{part_named, is_part, ends_of_part}
use Rattle.pb_control_socket.specs.declared.request.Request.{Request}
use Rattle.pb_control_socket.specs.declared.request.Request.TheVariants.{Stop, Counts, Tree, Drops, Stations, Help, Set, SetPart}
use Rattle.pb_control_socket.specs.declared.request.Refused.{Refused}
use Rattle.pb_control_socket.specs.declared.request.Refused.TheVariants.{NoSuch, Bad}

abbrev pub way_word : Bool → List ℕ
way_word true = codes "up"
way_word false = codes "down"

-- the texts before and after the first colon
abbrev pub colon_cut : List ℕ → Option (List ℕ × List ℕ)
colon_cut text = option_map (λ i. (take i text, drop (i + 1) text)) (position (λ c. c == 58) text)

-- `BRIDGE:PORT`: a local port of a bridge
pub record IsColonPort (plan : Plan) (word : List ℕ) (bridge port : ℕ) : Type 0 where
  pub name : List ℕ
  pub digits : List ℕ
  pub number : ℕ
  pub parts : colon_cut word ≡ Some (name, digits)
  pub is_named : is_name name ≡ true
  pub spelled : port_of digits ≡ Some number
  pub bridge_is : bridge ≡ bridge_named plan name
  pub port_is : port ≡ local_port number

-- what the arguments after `up` and `down` ask for: `BRIDGE PORT` and `BRIDGE:PORT` for a port, a name for a part
abbrev pub AsksFor : Plan → List ℕ → Bool → Request → Type 0
AsksFor plan words up Stop = ⊥
AsksFor plan words up Counts = ⊥
AsksFor plan words up Tree = ⊥
AsksFor plan words up Drops = ⊥
AsksFor plan words up (Stations bridge) = ⊥
AsksFor plan words up Help = ⊥
AsksFor plan words up (Set bridge port way) =
    (way ≡ up) × (IsBridgePort plan words bridge port ⊎ IsColonPort plan words bridge port)
AsksFor plan words up (SetPart part way) = (way ≡ up) × (is_name words ≡ true) × (part ≡ part_named plan words)

-- the line is `up` or `down` and arguments that ask for the request
pub record AsksToSet (plan : Plan) (line : List ℕ) (request : Request) : Type 0 where
  pub up : Bool
  pub words : List ℕ
  pub parts : cut line ≡ Some (way_word up, words)
  pub asks : AsksFor plan words up request

-- the line is `stations` and the name of a bridge, whose number is 0 if the plan has none of this name
pub record AsksForStations (plan : Plan) (line : List ℕ) (bridge : ℕ) : Type 0 where
  pub name : List ℕ
  pub parts : cut line ≡ Some (codes "stations", name)
  pub is_named : is_name name ≡ true
  pub bridge_is : bridge ≡ bridge_named plan name

-- the request of the line. A bridge, a port or a part that the plan lacks has the number 0, which names nothing
abbrev pub Asks : Plan → List ℕ → Request → Type 0
Asks plan line Stop = line ≡ codes "stop"
Asks plan line Counts = line ≡ codes "counts"
Asks plan line Tree = line ≡ codes "tree"
Asks plan line Drops = line ≡ codes "drops"
Asks plan line (Stations bridge) = AsksForStations plan line bridge
Asks plan line Help = line ≡ codes "help"
Asks plan line (Set bridge port up) = AsksToSet plan line (Set bridge port up)
Asks plan line (SetPart part up) = AsksToSet plan line (SetPart part up)

-- the line is no request of a single argument
abbrev pub IsNoWord : List ℕ → Type 0
IsNoWord line = (line ≢ codes "stop") × (line ≢ codes "counts") × (line ≢ codes "tree") × (line ≢ codes "drops")
    × (line ≢ codes "help")

-- the port to be set leads to another bridge; the name of the part or of the bridge means one
abbrev pub is_there : Plan → Request → Bool
is_there plan Stop = true
is_there plan Counts = true
is_there plan Tree = true
is_there plan Drops = true
is_there plan (Stations bridge) = not (bridge == 0)
is_there plan Help = true
is_there plan (Set bridge port up) = is_provider (port_at plan bridge port)
is_there plan (SetPart part up) = is_part part

-- what is read of a line: a request whose port or part exists, one whose port or part does not, or none at all
abbrev pub Reads : Plan → List ℕ → Result Request Refused → Type 0
Reads plan line (Ok request) = Asks plan line request × (is_there plan request ≡ true)
Reads plan line (Err NoSuch) = (request : Request) × Asks plan line request × (is_there plan request ≡ false)
Reads plan line (Err Bad) = (request : Request) → Asks plan line request → ⊥

-- the change of an end of a link
abbrev pub set_end : Bool → End → Request
set_end up e = Set e.bridge e.port up

-- the changes that a request makes, each of them one call of the board
abbrev pub changes : Plan → Request → List Request
changes plan Stop = Stop ∷ []
changes plan Counts = []
changes plan Tree = []
changes plan Drops = []
changes plan (Stations bridge) = []
changes plan Help = []
changes plan (Set bridge port up) = Set bridge port up ∷ []
changes plan (SetPart part up) = map (set_end up) (ends_of_part plan part)
