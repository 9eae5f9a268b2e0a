-- The names of the parts of a plan, by their numbers.
use Rattle.std.specs.Prelude.{ℕ, List, [], unwrap_or, codes}
use Rattle.std.specs.Option.{option_map}
use Rattle.pb_lan.specs.Numbering.{numbered}
use Rattle.pb_lan.specs.declared.plan.Plan.{Plan}
use Rattle.pb_lan.specs.declared.shape.PortState.{PortState}
use Rattle.pb_lan.specs.declared.shape.PortState.TheVariants.{Discarding, Learning, Forwarding}
use Rattle.pb_rstp.specs.declared.role.Role.{Role}
use Rattle.pb_rstp.specs.declared.role.Role.TheVariants.{Disabled, Root, Designated, Alternate, Backup}

-- the name of a bridge by its number, or the empty text if there is none
abbrev pub bridge_name : Plan → ℕ → List ℕ
bridge_name plan number = unwrap_or (option_map (λ b. b.name) (numbered plan.bridges number)) []

-- the name of a link
abbrev pub link_name : Plan → ℕ → List ℕ
link_name plan number = unwrap_or (option_map (λ l. l.name) (numbered plan.links number)) []

-- the name of a service
abbrev pub service_name : Plan → ℕ → List ℕ
service_name plan number = unwrap_or (option_map (λ s. s.name) (numbered plan.services number)) []

-- the name of a customer port
abbrev pub port_name : Plan → ℕ → List ℕ
port_name plan number = unwrap_or (option_map (λ c. c.name) (numbered plan.customers number)) []

-- the printed name of a port role
abbrev pub role_word : Role → List ℕ
role_word Disabled = codes "disabled"
role_word Root = codes "root"
role_word Designated = codes "designated"
role_word Alternate = codes "alternate"
role_word Backup = codes "backup"

-- the printed name of a port state
abbrev pub state_word : PortState → List ℕ
state_word Discarding = codes "discarding"
state_word Learning = codes "learning"
state_word Forwarding = codes "forwarding"
