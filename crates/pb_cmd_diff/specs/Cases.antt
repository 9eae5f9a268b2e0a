-- The failures of two plans, matched by the names of what fails.
use Rattle.std.specs.Prelude.{ℕ, Bool, true, false, List, ◌++◌, map, min, max, nat_lt, ◌==◌, ◌&&◌, not, if◌then◌else◌}
use Rattle.std.specs.List.{filter}
use Rattle.pb_frame.specs.Admission.{same}
use Rattle.pb_lan.specs.Events.{number_of}
use Rattle.pb_lan.specs.declared.plan.Plan.{Plan}
use Rattle.pb_names.specs.Names.{bridge_name, link_name}
use Rattle.pb_cmd_survive.specs.Failures.{all_failures}
use Rattle.pb_cmd_survive.specs.declared.failure.Failure.{Failure}
use Rattle.pb_cmd_survive.specs.declared.failure.Failure.TheVariants.{Nothing, Link, Pair, Bridge}
use Rattle.pb_cmd_survive.specs.declared.failure.Kinds.{Kinds}
use Rattle.pb_cmd_diff.specs.declared.case.Case.{Case}

-- the number of the link with this name, or 0 if the plan has none
abbrev pub link_named : Plan → List ℕ → ℕ
link_named plan name = number_of (λ l. same name l.name) 1 plan.links

-- that of a bridge
abbrev pub bridge_named : Plan → List ℕ → ℕ
bridge_named plan name = number_of (λ b. same name b.name) 1 plan.bridges

-- the number that a link of a plan has in the other plan, by its name
abbrev pub link_in : Plan → Plan → ℕ → ℕ
link_in plan other number = link_named other (link_name plan number)

-- that of a bridge
abbrev pub bridge_in : Plan → Plan → ℕ → ℕ
bridge_in plan other number = bridge_named other (bridge_name plan number)

-- the failure of what has these numbers; nothing has the number 0
abbrev pub link_fails : ℕ → Failure
link_fails number = if number == 0 then Nothing else Link number

abbrev pub bridge_fails : ℕ → Failure
bridge_fails number = if number == 0 then Nothing else Bridge number

abbrev pub links_fail : ℕ → ℕ → Failure
links_fail first second =
    if first == 0 then link_fails second
    else (if second == 0 then link_fails first else Pair (min first second) (max first second))

-- a plan's failure in the other plan: what the other plan lacks does not fail there
abbrev pub failure_in : Plan → Plan → Failure → Failure
failure_in plan other Nothing = Nothing
failure_in plan other (Link number) = link_fails (link_in plan other number)
failure_in plan other (Pair first second) = links_fail (link_in plan other first) (link_in plan other second)
failure_in plan other (Bridge number) = bridge_fails (bridge_in plan other number)

-- the other plan has all that fails
abbrev pub is_known : Plan → Plan → Failure → Bool
is_known plan other Nothing = true
is_known plan other (Link number) = nat_lt 0 (link_in plan other number)
is_known plan other (Pair first second) = nat_lt 0 (link_in plan other first) && nat_lt 0 (link_in plan other second)
is_known plan other (Bridge number) = nat_lt 0 (bridge_in plan other number)

-- nothing fails in either plan
abbrev pub calm : Case
calm = record { old = Nothing; new = Nothing; is_new = false }

-- a failure of OLD
abbrev pub old_case : Plan → Plan → Failure → Case
old_case old new failure = record { old = failure; new = failure_in old new failure; is_new = false }

-- a failure of NEW
abbrev pub new_case : Plan → Plan → Failure → Case
new_case old new failure = record { old = failure_in new old failure; new = failure; is_new = true }

-- the failures of NEW that OLD lacks
abbrev pub new_failures : Plan → Plan → Kinds → List Failure
new_failures old new kinds = filter (λ f. not (is_known new old f)) (all_failures new kinds)

-- each failure of OLD, then each failure of NEW that OLD lacks
abbrev pub all_cases : Plan → Plan → Kinds → List Case
all_cases old new kinds = map (old_case old new) (all_failures old kinds) ++ map (new_case old new) (new_failures old new kinds)
