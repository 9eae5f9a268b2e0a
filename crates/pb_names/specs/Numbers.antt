-- The numbers of the parts of a plan. No part has number 0.
use Rattle.std.specs.Prelude.{ℕ, List, unwrap_or}
use Rattle.std.specs.Option.{option_map}
use Rattle.pb_frame.specs.Admission.{same}
use Rattle.pb_lan.specs.Events.{number_of}
use Rattle.pb_lan.specs.Numbering.{numbered}
use Rattle.pb_lan.specs.declared.plan.Plan.{Plan}

-- the number of the service with this name, or 0 if the plan has none
abbrev pub service_named : Plan → List ℕ → ℕ
service_named plan name = number_of (λ s. same name s.name) 1 plan.services

-- the number of the customer port with this name, or 0 if the plan has none
abbrev pub port_named : Plan → List ℕ → ℕ
port_named plan name = number_of (λ c. same name c.name) 1 plan.customers

-- the number of the service of a customer port, or 0 if there is no such port
abbrev pub service_at : Plan → ℕ → ℕ
service_at plan port = unwrap_or (option_map (λ c. c.service) (numbered plan.customers port)) 0
