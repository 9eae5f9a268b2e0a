-- The services to analyse.
use Rattle.std.specs.Prelude.{ℕ, Bool, true, List, [], ◌∷◌, ◌++◌, Option, Some, None, nat_lt, codes}
use Rattle.pb_lan.specs.Numbering.{numbers_from}
use Rattle.pb_lan.specs.declared.plan.Plan.{Plan}
use Rattle.pb_names.specs.Numbers.{port_named, service_at, service_named}
use Rattle.pb_cmd_survive.specs.declared.scope.Scope.{Scope}
use Rattle.pb_cmd_survive.specs.declared.scope.Scope.TheVariants.{All, Service, From}

-- all services, the one with this name, or that of the customer port with this name
abbrev pub services_of : Plan → Scope → List ℕ
services_of plan All = numbers_from 1 plan.services
services_of plan (Service name) = service_named plan name.now ∷ []
services_of plan (From name) = service_at plan (port_named plan name.now) ∷ []

-- the requested customer port
abbrev pub from_of : Plan → Scope → Option ℕ
from_of plan All = None
from_of plan (Service name) = None
from_of plan (From name) = Some (port_named plan name.now)

-- the plan has the service or port of the scope
abbrev pub is_found : Plan → Scope → Bool
is_found plan All = true
is_found plan (Service name) = nat_lt 0 (service_named plan name.now)
is_found plan (From name) = nat_lt 0 (port_named plan name.now)

-- the line if it has not
abbrev pub no_such_line : Scope → List ℕ
no_such_line All = []
no_such_line (Service name) = codes "no such service " ++ name.now ++ 10 ∷ []
no_such_line (From name) = codes "no such port " ++ name.now ++ 10 ∷ []
