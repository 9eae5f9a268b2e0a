-- The parts of a plan, each with its fields as texts: the network itself, bridges, links, services and customer ports.
use Rattle.std.specs.Prelude.{ℕ, Bool, true, false, List, [], ◌∷◌, ◌++◌, Option, Some, None, map, flat_map, codes, ◌==◌, if◌then◌else◌}
use Rattle.std.specs.Fmt.{decimal}
use Rattle.std.specs.List.{filter, list_any}
use Rattle.pb_frame.specs.Hex.{mac_text}
use Rattle.pb_lan.specs.declared.plan.Plan.{Plan}
use Rattle.pb_lan.specs.declared.plan.BridgePlan.{BridgePlan}
use Rattle.pb_lan.specs.declared.plan.CustomerPlan.{CustomerPlan}
use Rattle.pb_lan.specs.declared.plan.End.{End}
use Rattle.pb_lan.specs.declared.plan.LinkPlan.{LinkPlan}
use Rattle.pb_lan.specs.declared.plan.ServicePlan.{ServicePlan}
use Rattle.pb_lan.specs.declared.plan.Queues.{Queues}
use Rattle.pb_lan.specs.declared.plan.Queues.TheVariants.{PerPort, PerClass}
use Rattle.pb_lan.specs.declared.plan.Spanning.{Spanning}
use Rattle.pb_lan.specs.declared.plan.Spanning.TheVariants.{Fixed, Rstp}
use Rattle.pb_names.specs.Names.{bridge_name, service_name, state_word}
use Rattle.pb_names.specs.Numbers.{service_named}
use Rattle.pb_plan_diff.specs.declared.part.Field.{Field}
use Rattle.pb_plan_diff.specs.declared.part.Part.{Part}

-- a field, by its key of the plan file
abbrev pub field : List ℕ → List ℕ → Field
field key text = record { key = key; text = text }

abbrev pub number_field : List ℕ → ℕ → Field
number_field key number = field key (decimal number)

-- what decides the states of ports
abbrev pub spanning_word : Spanning → List ℕ
spanning_word Fixed = codes "fixed"
spanning_word Rstp = codes "rstp"

-- what the capacity of a queue counts
abbrev pub queues_word : Queues → List ℕ
queues_word PerPort = codes "port"
queues_word PerClass = codes "class"

abbrev pub truth_word : Bool → List ℕ
truth_word true = codes "true"
truth_word false = codes "false"

-- the names of the services of two plans, each once: those of the first, then those that only the second has
abbrev pub service_names : Plan → Plan → List (List ℕ)
service_names old new =
    map (λ s. s.name) old.services ++ filter (λ name. service_named old name == 0) (map (λ s. s.name) new.services)

-- one of the numbers is that of the service with this name
abbrev pub is_member : Plan → List ℕ → List ℕ → Bool
is_member plan numbers name = list_any (λ n. n == service_named plan name) numbers

-- a name after a space, if it is a member's
abbrev pub member_text : Plan → List ℕ → List ℕ → List ℕ
member_text plan numbers name = if is_member plan numbers name then 32 ∷ name else []

-- the services of a port, all or in brackets, in the order of a list of names
abbrev pub services_text : List (List ℕ) → Plan → Option (List ℕ) → List ℕ
services_text names plan None = codes "all"
services_text names plan (Some numbers) = codes "[" ++ flat_map (member_text plan numbers) names ++ codes " ]"

-- the numbers of lost items in brackets
abbrev pub losses_text : List ℕ → List ℕ
losses_text losses = codes "[" ++ flat_map (λ n. 32 ∷ decimal n) losses ++ codes " ]"

-- the fields of each kind of part
abbrev pub network_fields : Plan → List Field
network_fields plan =
    field (codes "spanning") (spanning_word plan.spanning) ∷ field (codes "prompt") (truth_word plan.prompt)
    ∷ field (codes "queues") (queues_word plan.queues)
    ∷ number_field (codes "ageing") plan.ageing ∷ number_field (codes "ring") plan.ring ∷ number_field (codes "steps") plan.steps ∷ []

abbrev pub bridge_fields : BridgePlan → List Field
bridge_fields b =
    field (codes "address") (mac_text b.address.0) ∷ number_field (codes "priority") b.priority ∷ number_field (codes "queue") b.queue ∷ []

abbrev pub end_fields : List (List ℕ) → Plan → List ℕ → End → List Field
end_fields names plan side e =
    field side (bridge_name plan e.bridge) ∷ number_field (side ++ codes "_port") e.port
    ∷ number_field (side ++ codes "_cost") e.cost ∷ number_field (side ++ codes "_priority") e.priority
    ∷ field (side ++ codes "_state") (state_word e.start) ∷ field (side ++ codes "_services") (services_text names plan e.services) ∷ []

abbrev pub loss_fields : LinkPlan → List Field
loss_fields l = field (codes "lost_ab") (losses_text l.lost_ab) ∷ field (codes "lost_ba") (losses_text l.lost_ba) ∷ []

abbrev pub link_fields : List (List ℕ) → Plan → LinkPlan → List Field
link_fields names plan l = end_fields names plan (codes "a") l.a ++ end_fields names plan (codes "b") l.b ++ loss_fields l

abbrev pub service_fields : ServicePlan → List Field
service_fields s = number_field (codes "vid") s.vid ∷ []

abbrev pub port_fields : Plan → CustomerPlan → List Field
port_fields plan c =
    field (codes "bridge") (bridge_name plan c.bridge) ∷ number_field (codes "port") c.port
    ∷ field (codes "service") (service_name plan c.service) ∷ number_field (codes "pcp") c.pcp ∷ number_field (codes "queue") c.queue ∷ []

-- a part, by its kind and its name
abbrev pub part : List ℕ → List ℕ → List Field → Part
part kind name fields = record { title = kind ++ codes " " ++ name; fields = fields }

abbrev pub network_part : Plan → Part
network_part plan = record { title = codes "network"; fields = network_fields plan }

abbrev pub bridge_part : BridgePlan → Part
bridge_part b = part (codes "bridge") b.name (bridge_fields b)

abbrev pub link_part : List (List ℕ) → Plan → LinkPlan → Part
link_part names plan l = part (codes "link") l.name (link_fields names plan l)

abbrev pub service_part : ServicePlan → Part
service_part s = part (codes "service") s.name (service_fields s)

abbrev pub port_part : Plan → CustomerPlan → Part
port_part plan c = part (codes "port") c.name (port_fields plan c)

-- all parts, in the plan's order; services are listed in the order of `names`
abbrev pub parts_of : List (List ℕ) → Plan → List Part
parts_of names plan =
    network_part plan ∷ [] ++ map bridge_part plan.bridges ++ map (link_part names plan) plan.links
    ++ map service_part plan.services ++ map (port_part plan) plan.customers
