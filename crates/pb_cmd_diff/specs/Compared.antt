-- The services to compare: those that both plans have, by name.
use Rattle.std.specs.Prelude.{ℕ, Bool, true, List, [], ◌∷◌, ◌++◌, nat_lt, ◌&&◌, ◌||◌, codes}
use Rattle.std.specs.List.{filter}
use Rattle.pb_frame.specs.Admission.{same}
use Rattle.pb_lan.specs.Numbering.{numbers_from}
use Rattle.pb_lan.specs.declared.plan.Plan.{Plan}
use Rattle.pb_names.specs.Names.{service_name}
use Rattle.pb_names.specs.Numbers.{service_named}
use Rattle.pb_cmd_diff.specs.declared.compared.Compared.{Compared}
use Rattle.pb_cmd_diff.specs.declared.compared.Compared.TheVariants.{All, Service}

-- the number that a service of OLD has in NEW, by its name, or 0
abbrev pub service_in : Plan → Plan → ℕ → ℕ
service_in old new number = service_named new (service_name old number)

-- the service with this name is requested
abbrev pub is_asked : Compared → List ℕ → Bool
is_asked All name = true
is_asked (Service asked) name = same asked.now name

abbrev pub is_compared : Plan → Plan → Compared → ℕ → Bool
is_compared old new compared number = nat_lt 0 (service_in old new number) && is_asked compared (service_name old number)

-- their numbers in OLD, in its order
abbrev pub old_services : Plan → Plan → Compared → List ℕ
old_services old new compared = filter (is_compared old new compared) (numbers_from 1 old.services)

-- one of the plans has the requested service
abbrev pub is_found : Plan → Plan → Compared → Bool
is_found old new All = true
is_found old new (Service name) = nat_lt 0 (service_named old name.now) || nat_lt 0 (service_named new name.now)

-- the line if neither has
abbrev pub no_such_line : Compared → List ℕ
no_such_line All = []
no_such_line (Service name) = codes "no such service " ++ name.now ++ 10 ∷ []
