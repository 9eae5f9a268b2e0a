-- The printed warnings about a plan file.
use Rattle.std.specs.Prelude.{◌≡◌, ◌≢◌, ◌⊎◌, ℕ, ◌-◌, codes, List, [], ◌∷◌, ◌++◌, length}
use Rattle.std.specs.declared.option.Option.{Option}
use Rattle.std.specs.Fmt.{decimal}
use Rattle.std.specs.List.{flat_map}
use Rattle.std.specs.Option.{option_map_or}
use Rattle.pb_lan.specs.declared.limits.Limits.{Limits}
use Rattle.pb_lan.specs.declared.plan.Plan.{Plan}
use Rattle.pb_names.specs.Names.{bridge_name, link_name, service_name}
use Rattle.pb_plan_spans.specs.Lines.{table_line}
use Rattle.pb_service.specs.PlanFiles.{Tells, IsPlanOf, AreLimitsOf, RefusesFile}
use Rattle.pb_service.specs.declared.fault.PlanFault.{PlanFault}
use Rattle.pb_service.specs.declared.fault.PlanFault.TheVariants.{Memory}
use Rattle.pb_service.specs.declared.port_spec.PortSpec.{PortSpec}
use Rattle.pb_warnings.specs.Findings.{AreThose, possible}
use Rattle.pb_warnings.specs.Rules.{Holds}
use Rattle.pb_warnings.specs.declared.warning.Warning.{Warning}
use Rattle.pb_warnings.specs.declared.warning.Warning.TheVariants.{NeverTicks, Unlinked, TooFar, Unequal, NoPort, OnePort, Split}

-- what is wrong
abbrev pub reason : Warning → List ℕ
reason NeverTicks = codes "spanning = \"rstp\" without tick_ms or tick_every: bridges never tick in a run"
reason (Unlinked bridge) = codes "has no links"
reason (TooFar bridge) = codes "is more than 20 links from the root: the spanning tree never reaches it"
reason (Unequal link) = codes "has ends that are members of different services"
reason (NoPort service) = codes "has no port"
reason (OnePort service) = codes "has one port"
reason (Split service) = codes "has ports that no path of its links joins"

-- a part of a plan by its kind and its name
abbrev pub named : List ℕ → List ℕ → List ℕ
named kind name = kind ++ codes " \"" ++ name ++ codes "\" "

-- the part of the plan that a warning is about, and nothing for the network
abbrev pub subject : Plan → Warning → List ℕ
subject plan NeverTicks = []
subject plan (Unlinked bridge) = named (codes "bridge") (bridge_name plan bridge)
subject plan (TooFar bridge) = named (codes "bridge") (bridge_name plan bridge)
subject plan (Unequal link) = named (codes "link") (link_name plan link)
subject plan (NoPort service) = named (codes "service") (service_name plan service)
subject plan (OnePort service) = named (codes "service") (service_name plan service)
subject plan (Split service) = named (codes "service") (service_name plan service)

-- the text of a warning
abbrev pub warning_text : Plan → Warning → List ℕ
warning_text plan warning = subject plan warning ++ reason warning

-- the line of the file with the header of the table that a warning is about
abbrev pub line_of : List ℕ → Warning → Option ℕ
line_of file NeverTicks = table_line file (codes "network") 0
line_of file (Unlinked bridge) = table_line file (codes "bridge") (bridge - 1)
line_of file (TooFar bridge) = table_line file (codes "bridge") (bridge - 1)
line_of file (Unequal link) = table_line file (codes "link") (link - 1)
line_of file (NoPort service) = table_line file (codes "service") (service - 1)
line_of file (OnePort service) = table_line file (codes "service") (service - 1)
line_of file (Split service) = table_line file (codes "service") (service - 1)

-- the path of the file, and the line if there is one
abbrev pub place : List ℕ → Option ℕ → List ℕ
place path line = codes "warning: " ++ path ++ option_map_or (λ n. codes ":" ++ decimal n) line [] ++ codes ": "

-- the printed line for a warning
abbrev pub printed : List ℕ → List ℕ → Plan → Warning → List ℕ
printed path file plan warning = place path (line_of file warning) ++ warning_text plan warning ++ 10 ∷ []

-- the lines for the warnings about a plan with these limits of a run, and their number
pub record AreLines (path file : List ℕ) (plan : Plan) (limits : Limits) (text : List ℕ) (count : ℕ) : Type 0 where
  pub warnings : List Warning
  pub those : AreThose (Holds plan limits) (possible plan) warnings
  pub text_is : text ≡ flat_map (printed path file plan) warnings
  pub count_is : count ≡ length warnings

-- the lines for the warnings about the plan of a file, and their number
pub record IsWarned (path file text : List ℕ) (count : ℕ) : Type 0 where
  pub plan : Plan
  pub specs : List PortSpec
  pub limits : Limits
  pub told : Tells file (λ document. IsPlanOf document plan specs)
  pub limited : Tells file (λ document. AreLimitsOf document limits)
  pub lines : AreLines path file plan limits text count

-- the lines for a plan file, or none for a file that is refused
abbrev pub IsWarnedText : List ℕ → List ℕ → List ℕ → ℕ → Type 0
IsWarnedText path file text count =
    IsWarned path file text count
    ⊎ ((text ≡ []) × (count ≡ 0) × ((fault : PlanFault) × (fault ≢ Memory) × RefusesFile file fault))
