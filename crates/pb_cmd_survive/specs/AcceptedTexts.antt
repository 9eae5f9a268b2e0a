-- The lines on acceptances, and the tables that accept what was found.
use Rattle.std.specs.Prelude.{ℕ, List, [], ◌∷◌, ◌++◌, Option, Some, None, flat_map, codes, if◌then◌else◌}
use Rattle.std.specs.List.{zip}
use Rattle.pb_accept.specs.declared.acceptance.Acceptance.{Acceptance}
use Rattle.pb_accept.specs.declared.acceptance.NamedFailure.{NamedFailure}
use Rattle.pb_accept.specs.declared.acceptance.NamedFailure.TheVariants.{Link as AtLink, Bridge as AtBridge, Pair as AtPair}
use Rattle.pb_lan.specs.declared.plan.Plan.{Plan}
use Rattle.pb_names.specs.Names.{bridge_name, link_name, service_name}
use Rattle.pb_cmd_survive.specs.Acceptances.{is_stale, is_untried}
use Rattle.pb_cmd_survive.specs.Verdicts.{disconnects_view}
use Rattle.pb_cmd_survive.specs.declared.criteria.Criteria.{Criteria}
use Rattle.pb_cmd_survive.specs.declared.failure.Failure.{Failure}
use Rattle.pb_cmd_survive.specs.declared.failure.Failure.TheVariants.{Nothing, Link, Pair, Bridge}
use Rattle.pb_cmd_survive.specs.declared.impact.Impact.{Impact}
use Rattle.pb_cmd_survive.specs.declared.view.View.{View}

-- the failure that an acceptance names
abbrev pub named_text : Plan → NamedFailure → List ℕ
named_text plan (AtLink number) = codes "link " ++ link_name plan number
named_text plan (AtBridge number) = codes "bridge " ++ bridge_name plan number
named_text plan (AtPair one other) = codes "links " ++ link_name plan one ++ codes " " ++ link_name plan other

-- the service that it names, if it names one
abbrev pub only_text : Plan → Option ℕ → List ℕ
only_text plan None = []
only_text plan (Some service) = codes " service " ++ service_name plan service

-- what is said of an acceptance
abbrev pub acceptance_line : Plan → List ℕ → Acceptance → List ℕ
acceptance_line plan what a = what ++ codes " acceptance: " ++ named_text plan a.failure ++ only_text plan a.service ++ 10 ∷ []

-- the line of an acceptance that is stale, or was not tried
abbrev pub stale_line : Plan → Criteria → Impact → List Impact → Acceptance → List ℕ
stale_line plan criteria base impacts a =
    if is_stale plan criteria base impacts a then acceptance_line plan (codes "stale") a
    else if is_untried plan criteria base impacts a then acceptance_line plan (codes "untried") a else []

-- the lines of all acceptances
abbrev pub stale_text : Plan → Criteria → List Acceptance → Impact → List Impact → List ℕ
stale_text plan criteria acceptances base impacts = flat_map (stale_line plan criteria base impacts) acceptances

-- the key that names a failure, with its value
abbrev pub failure_key : Plan → Failure → List ℕ
failure_key plan Nothing = []
failure_key plan (Link number) = codes "link = \"" ++ link_name plan number ++ codes "\"\n"
failure_key plan (Pair first second) =
    codes "links = [\"" ++ link_name plan first ++ codes "\", \"" ++ link_name plan second ++ codes "\"]\n"
failure_key plan (Bridge number) = codes "bridge = \"" ++ bridge_name plan number ++ codes "\"\n"

-- the table that accepts that a failure disconnects a service
abbrev pub accept_table : Plan → Failure → ℕ → List ℕ
accept_table plan failure service =
    codes "[[accept]]\n" ++ failure_key plan failure ++ codes "service = \"" ++ service_name plan service ++ codes "\"\n\n"

-- that table, if the failure disconnects the service
abbrev pub view_table : Plan → Criteria → Failure → (View × View) → List ℕ
view_table plan criteria failure v = if disconnects_view criteria v then accept_table plan failure v.1.service else []

-- the tables of a failure, and those of all failures
abbrev pub impact_tables : Plan → Criteria → Impact → Impact → List ℕ
impact_tables plan criteria base o = flat_map (view_table plan criteria o.failure) (zip base.views o.views)

abbrev pub accept_tables : Plan → Criteria → Impact → List Impact → List ℕ
accept_tables plan criteria base impacts = flat_map (impact_tables plan criteria base) impacts
