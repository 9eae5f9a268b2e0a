-- The numbers of the names of a plan.
use Rattle.std.specs.Prelude.{ℕ, List, map}
use Rattle.pb_frame.specs.Admission.{same}
use Rattle.pb_lan.specs.Events.{number_of}
use Rattle.pb_lan.specs.declared.plan.Plan.{Plan}

-- the number, from 1, of the first of these names that is this one, or 0 if none is
abbrev pub named : List (List ℕ) → List ℕ → ℕ
named names name = number_of (λ other. same other name) 1 names

-- the number of the bridge with this name, or 0 if the plan has none
abbrev pub bridge_named : Plan → List ℕ → ℕ
bridge_named plan name = named (map (λ b. b.name) plan.bridges) name

-- the number of the link with this name, or 0 if the plan has none
abbrev pub link_named : Plan → List ℕ → ℕ
link_named plan name = named (map (λ l. l.name) plan.links) name

-- the number of the customer port with this name, or 0 if the plan has none
abbrev pub customer_named : Plan → List ℕ → ℕ
customer_named plan name = named (map (λ c. c.name) plan.customers) name
