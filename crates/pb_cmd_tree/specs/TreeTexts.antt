-- The text of the command `tree`.
use Rattle.std.specs.Prelude.{◌≡◌, ◌⊎◌, ℕ, Bool, true, false, List, [], ◌∷◌, ◌++◌, Some, None, flat_map, unwrap_or, slice_get, codes, if◌then◌else◌}
use Rattle.std.specs.Fmt.{decimal}
use Rattle.std.specs.Option.{option_map}
use Rattle.std.specs.declared.option.Option.{Option}
use Rattle.pb_forest.specs.Paths.{depth_of}
use Rattle.pb_frame.specs.Lists.{first}
use Rattle.pb_lan.specs.Forests.{IsForest, Shows}
use Rattle.pb_lan.specs.LastShapes.{last_shape}
use Rattle.pb_lan.specs.Numbering.{numbered, numbers_from}
use Rattle.pb_lan.specs.Ports.{local_ports}
use Rattle.pb_lan.specs.Records.{steps_of}
use Rattle.pb_lan.specs.Shapes.{state_in}
use Rattle.pb_lan.specs.declared.plan.Plan.{Plan}
use Rattle.pb_lan.specs.declared.plan.LinkPlan.{LinkPlan}
use Rattle.pb_lan.specs.declared.plan.ServicePlan.{ServicePlan}
use Rattle.pb_lan.specs.declared.record.Record.{Record}
use Rattle.pb_lan.specs.declared.shape.PortState.{PortState}
use Rattle.pb_lan.specs.declared.shape.Rooted.{Rooted}
use Rattle.pb_lan.specs.declared.shape.Shape.{Shape}
use Rattle.pb_converge.specs.Convergences.{convergence_line}
use Rattle.pb_names.specs.Names.{bridge_name, link_name, role_word, state_word}
use Rattle.pb_names.specs.Places.{link_at}
use Rattle.pb_report.specs.ForestTexts.{IsForestText}
use Rattle.pb_rstp.specs.Ports.{Machine, is_root}
use Rattle.pb_rstp.specs.Profile.{machine_of}
use Rattle.pb_rstp.specs.Readings.{root_of, stored_at, roles_of}
use Rattle.pb_rstp.specs.declared.port.Port.{Port}
use Rattle.pb_rstp.specs.declared.role.Role.{Role}
use Rattle.pb_rstp.specs.declared.role.Role.TheVariants.{Disabled, Root, Designated, Alternate, Backup}
use Rattle.pb_converge.specs.declared.convergence.Convergence.{Convergence}
use Rattle.pb_converge.specs.declared.convergence.Convergence.TheVariants.{Given, Converged, NotConverged}
use Rattle.pb_cmd_tree.specs.Names.{id_name, link_name_at, path_cost_at}

-- another port is the Designated port of the port's link
abbrev pub is_served : Role → Bool
is_served Root = true
is_served Alternate = true
is_served Backup = true
is_served Disabled = false
is_served Designated = false

-- the Designated bridge of a port's link: that of the stored vector if another port serves the link, else the own one
abbrev pub designated_at : Machine → ℕ → Role → ℕ
designated_at machine port role = if is_served role then unwrap_or (option_map (λ v. v.bridge) (stored_at machine port)) machine.id else machine.id

-- the line of a port to another bridge, from its parts
abbrev pub port_words : Plan → ℕ → ℕ → Role → PortState → ℕ → List ℕ
port_words plan bridge port role state from =
    codes "port " ++ bridge_name plan bridge ++ codes " " ++ decimal port ++ codes " link " ++ link_name_at plan bridge port
    ++ codes " " ++ role_word role ++ codes " " ++ state_word state ++ codes " cost " ++ decimal (path_cost_at plan bridge port)
    ++ codes " from " ++ id_name plan from ++ 10 ∷ []

-- the line of a port of a bridge's protocol machine
abbrev pub port_line : Plan → ℕ → Machine → Port → List ℕ
port_line plan bridge machine p = port_words plan bridge p.number p.role p.state (designated_at machine p.number p.role)

-- the Root port, if there is one
abbrev pub root_port_words : Option (ℕ × Role) → List ℕ
root_port_words None = []
root_port_words (Some p) = codes " port " ++ decimal p.0

-- the line of a bridge: its root, its root path cost and its Root port
abbrev pub bridge_line : Plan → ℕ → Machine → List ℕ
bridge_line plan bridge machine =
    codes "bridge " ++ bridge_name plan bridge ++ codes " root " ++ id_name plan (root_of machine).root ++ codes " cost " ++ decimal (root_of machine).cost
    ++ root_port_words (first (λ p. is_root p.1) (roles_of machine.ports)) ++ 10 ∷ []

-- the lines of a bridge and its ports
abbrev pub bridge_lines : Plan → ℕ → Machine → List ℕ
bridge_lines plan bridge machine = bridge_line plan bridge machine ++ flat_map (port_line plan bridge machine) machine.ports

-- the lines of a bridge, whose protocol machine follows from its own steps
abbrev pub own_lines : Plan → Record → ℕ → List ℕ
own_lines plan rec bridge = bridge_lines plan bridge (machine_of plan bridge (steps_of rec.bridges bridge))

-- the lines of all bridges that run the rapid spanning tree
abbrev pub protocol_lines : Plan → Record → List ℕ
protocol_lines plan rec = flat_map (own_lines plan rec) (numbers_from 1 plan.bridges)

-- the line of a port if the plan gives the states: nothing if no link is there
abbrev pub given_port_words : Plan → Shape → ℕ → ℕ → Option LinkPlan → List ℕ
given_port_words plan shape bridge port None = []
given_port_words plan shape bridge port (Some link) =
    codes "port " ++ bridge_name plan bridge ++ codes " " ++ decimal port ++ codes " link " ++ link.name ++ codes " " ++ state_word (state_in shape bridge port) ++ 10 ∷ []

abbrev pub given_port_line : Plan → Shape → ℕ → ℕ → List ℕ
given_port_line plan shape bridge port = given_port_words plan shape bridge port (link_at plan bridge port)

-- the lines of a bridge and its ports if the plan gives the states
abbrev pub given_bridge_lines : Plan → Shape → ℕ → List ℕ
given_bridge_lines plan shape bridge =
    codes "bridge " ++ bridge_name plan bridge ++ 10 ∷ flat_map (given_port_line plan shape bridge) local_ports

-- the lines of all bridges if the plan gives the states
abbrev pub given_lines : Plan → Shape → List ℕ
given_lines plan shape = flat_map (given_bridge_lines plan shape) (numbers_from 1 plan.bridges)

-- the link from a bridge to its parent, if it has one
abbrev pub up_at : Rooted → ℕ → Option ℕ
up_at rooted bridge = unwrap_or (numbered rooted.up bridge) None

-- the line of a bridge in a service's tree: nothing for a root
abbrev pub up_words : Plan → List ℕ → Rooted → ℕ → Option ℕ → List ℕ
up_words plan service rooted bridge None = []
up_words plan service rooted bridge (Some link) =
    codes "service " ++ service ++ codes " bridge " ++ bridge_name plan bridge ++ codes " up " ++ link_name plan link ++ codes " depth " ++ decimal (depth_of rooted bridge) ++ 10 ∷ []

abbrev pub up_line : Plan → List ℕ → Rooted → ℕ → List ℕ
up_line plan service rooted bridge = up_words plan service rooted bridge (up_at rooted bridge)

-- the lines of a service's tree
abbrev pub up_lines : Plan → List ℕ → Rooted → List ℕ
up_lines plan service rooted = flat_map (up_line plan service rooted) (numbers_from 1 plan.bridges)

-- the tree of a service: the bridges below its roots, or nothing if its active links form a loop
abbrev pub IsServiceText : Plan → Shape → ServicePlan → List ℕ → Type 0
IsServiceText plan shape service text =
    ((rooted : Rooted) × Shows plan shape service.vid rooted × (text ≡ up_lines plan service.name rooted))
    ⊎ ((IsForest plan shape service.vid → ⊥) × (text ≡ []))

abbrev pub IsServiceTextAt : Plan → Shape → ℕ → List ℕ → Type 0
IsServiceTextAt plan shape place text = (service : ServicePlan) × (slice_get plan.services place ≡ Some service) × IsServiceText plan shape service text

-- the trees of several services
abbrev pub AreServiceTexts : Plan → Shape → List ServicePlan → List ℕ → Type 0
AreServiceTexts plan shape [] text = text ≡ []
AreServiceTexts plan shape (service ∷ services) text =
    (here : List ℕ) × (others : List ℕ) × (text ≡ here ++ others) × IsServiceText plan shape service here × AreServiceTexts plan shape services others

-- the text if the plan gives the states
pub record IsGivenText (plan : Plan) (shape : Shape) (text : List ℕ) : Type 0 where
  pub forest : List ℕ
  pub is_forest : IsForestText plan shape forest
  pub services : List ℕ
  pub are_services : AreServiceTexts plan shape plan.services services
  pub text_is : text ≡ given_lines plan shape ++ forest ++ services

-- the text if the bridges run the rapid spanning tree
pub record IsProtocolText (plan : Plan) (rec : Record) (convergence : Convergence) (text : List ℕ) : Type 0 where
  pub forest : List ℕ
  pub is_forest : IsForestText plan (last_shape plan rec) forest
  pub text_is : text ≡ convergence_line convergence ++ protocol_lines plan rec ++ forest

-- the text for the network at the end of a record
abbrev pub IsTreeText : Plan → Record → Convergence → List ℕ → Type 0
IsTreeText plan rec Given text = IsGivenText plan (last_shape plan rec) text
IsTreeText plan rec (Converged ticks) text = IsProtocolText plan rec (Converged ticks) text
IsTreeText plan rec (NotConverged ticks) text = IsProtocolText plan rec (NotConverged ticks) text
