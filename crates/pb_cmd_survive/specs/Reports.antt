-- The report on a network under failures.
use Rattle.std.specs.Prelude.{ℕ, Bool, true, false, List, [], ◌∷◌, ◌++◌, Option, Some, None, flat_map, length, codes, nat_lt, ◌==◌, ◌&&◌, not, max, count_by, string_bytes, if◌then◌else◌}
use Rattle.std.specs.Fmt.{decimal}
use Rattle.std.specs.Global.{Global}
use Rattle.std.specs.List.{list_all, list_any, zip}
use Rattle.std.specs.declared.string.String.{String}
use Rattle.pb_lan.specs.declared.plan.Plan.{Plan}
use Rattle.pb_names.specs.Names.{bridge_name, link_name, port_name, service_name}
use Rattle.pb_converge.specs.declared.convergence.Convergence.{Convergence}
use Rattle.pb_converge.specs.declared.convergence.Convergence.TheVariants.{Given, Converged, NotConverged}
use Rattle.pb_cmd_survive.specs.Failures.{is_link, is_bridge, is_pair}
use Rattle.pb_cmd_survive.specs.Verdicts.{is_converged, are_forests, is_split, is_healthy_service, is_healthy, is_lost, disconnects_view, disconnects, is_left_out}
use Rattle.pb_cmd_survive.specs.Judgements.{harms, is_accepted_impact, survives}
use Rattle.pb_cmd_survive.specs.AcceptedTexts.{stale_text}
use Rattle.pb_accept.specs.declared.acceptance.Acceptance.{Acceptance}
use Rattle.pb_cmd_survive.specs.declared.criteria.Criteria.{Criteria}
use Rattle.pb_cmd_survive.specs.declared.failure.Failure.{Failure}
use Rattle.pb_cmd_survive.specs.declared.failure.Failure.TheVariants.{Nothing, Link, Pair, Bridge}
use Rattle.pb_cmd_survive.specs.declared.impact.Impact.{Impact}
use Rattle.pb_cmd_survive.specs.declared.sites.Site.{Site}
use Rattle.pb_cmd_survive.specs.declared.view.View.{View}

-- the ending of a noun after a number
abbrev pub plural : ℕ → List ℕ
plural number = if number == 1 then [] else codes "s"

-- a number and a noun, which has an s unless the number is 1
abbrev pub counted : ℕ → List ℕ → List ℕ
counted number noun = decimal number ++ codes " " ++ noun ++ plural number

-- what is down
abbrev pub failure_text : Plan → Failure → List ℕ
failure_text plan Nothing = codes "nothing down"
failure_text plan (Link number) = codes "link " ++ link_name plan number ++ codes " down"
failure_text plan (Pair first second) = codes "links " ++ link_name plan first ++ codes " " ++ link_name plan second ++ codes " down"
failure_text plan (Bridge number) = codes "bridge " ++ bridge_name plan number ++ codes " down"

-- whether the bridges converged, and after how many ticks of each
abbrev pub convergence_text : Convergence → List ℕ
convergence_text Given = codes "states given"
convergence_text (Converged ticks) = codes "converged ticks " ++ decimal ticks
convergence_text (NotConverged ticks) = codes "not converged ticks " ++ decimal ticks

-- whether the shape is a forest for each analysed service
abbrev pub forest_text : List View → List ℕ
forest_text views = if are_forests views then codes " forest yes" else codes " forest no"

-- the first line of a failure
abbrev pub head_line : Plan → Impact → List ℕ
head_line plan o = failure_text plan o.failure ++ codes ": " ++ convergence_text o.convergence ++ forest_text o.views ++ 10 ∷ []

-- a port of a group, after a space
abbrev pub member_text : Plan → ℕ → Site → List ℕ
member_text plan group s = if s.group == group then 32 ∷ port_name plan s.port else []

-- the ports of a group
abbrev pub group_text : Plan → List Site → ℕ → List ℕ
group_text plan sites group = flat_map (member_text plan group) sites

-- a group whose first port is not the service's first, after a bar
abbrev pub later_text : Plan → List Site → Site → List ℕ
later_text plan sites s = if s.group == s.port then codes " |" ++ group_text plan sites s.group else []

-- all groups of a service
abbrev pub groups_text : Plan → List Site → List ℕ
groups_text plan [] = []
groups_text plan (s ∷ later) = group_text plan (s ∷ later) s.group ++ flat_map (later_text plan (s ∷ later)) later

-- the line of a service
abbrev pub service_line : Plan → View → List ℕ
service_line plan v = codes "  service " ++ service_name plan v.service ++ codes ":" ++ groups_text plan v.sites ++ 10 ∷ []

-- the line of a service whose active links form a loop
abbrev pub loop_line : Plan → View → List ℕ
loop_line plan v = if v.is_forest then [] else codes "  loop " ++ service_name plan v.service ++ 10 ∷ []

-- the value that is read past the end of a list
abbrev pub no_site : Site
no_site = record { port = 0; group = 0; is_out = false }

-- a port that the requested one can't reach any more, after a space
abbrev pub lost_text : Plan → Criteria → List (Site × Site) → (Site × Site) → List ℕ
lost_text plan criteria sites q = if is_lost criteria sites q then 32 ∷ port_name plan q.1.port else []

-- the line of the ports that the requested one can't reach any more
abbrev pub cut_off_line : Plan → Criteria → ℕ → (View × View) → List ℕ
cut_off_line plan criteria port v =
    codes "  " ++ port_name plan port ++ codes " cut off from:"
    ++ flat_map (lost_text plan criteria (zip v.0.sites v.1.sites)) (zip v.0.sites v.1.sites) ++ 10 ∷ []

-- how a service is disconnected: its groups, or the ports from which the requested port is cut off
abbrev pub disconnection_by : Plan → Criteria → Option ℕ → (View × View) → List ℕ
disconnection_by plan criteria None v = service_line plan v.1
disconnection_by plan criteria (Some port) v = cut_off_line plan criteria port v

abbrev pub disconnection_line : Plan → Criteria → (View × View) → List ℕ
disconnection_line plan criteria v = disconnection_by plan criteria criteria.from v

-- the lines of a service: one if it has a loop, and one if it is disconnected
abbrev pub view_text : Plan → Criteria → (View × View) → List ℕ
view_text plan criteria v = loop_line plan v.1 ++ (if disconnects_view criteria v then disconnection_line plan criteria v else [])

-- that nothing is down, or nothing besides what was down before
abbrev pub calm_words : Criteria → List ℕ
calm_words criteria = if criteria.impaired then codes "nothing else down" else codes "nothing down"

-- the first line with nothing, or nothing else, down
abbrev pub calm_line : Criteria → Impact → List ℕ
calm_line criteria o = calm_words criteria ++ codes ": " ++ convergence_text o.convergence ++ forest_text o.views ++ 10 ∷ []

-- the lines then: one for each service, and one more for each loop
abbrev pub whole_text : Plan → Criteria → Impact → List ℕ
whole_text plan criteria o = calm_line criteria o ++ flat_map (λ v. loop_line plan v ++ service_line plan v) o.views

-- a line about a service
abbrev pub about_line : Plan → View → List ℕ → List ℕ
about_line plan v what = codes "service " ++ service_name plan v.service ++ what ++ 10 ∷ []

-- a line for each reason why a service is not healthy
abbrev pub split_line : Plan → View → List ℕ
split_line plan v = if is_split v.sites then about_line plan v (codes " is disconnected") else []

abbrev pub loop_reason_line : Plan → View → List ℕ
loop_reason_line plan v = if v.is_forest then [] else about_line plan v (codes " has a forwarding loop")

abbrev pub few_line : Plan → View → List ℕ
few_line plan v = if nat_lt 1 (length v.sites) then [] else about_line plan v (codes " has fewer than two ports")

abbrev pub reasons_text : Plan → View → List ℕ
reasons_text plan v = split_line plan v ++ loop_reason_line plan v ++ few_line plan v

-- how many services are not healthy
abbrev pub unhealthy_text : List View → List ℕ
unhealthy_text views =
    if length views == 0 then codes "no service"
    else counted (count_by (λ v. not (is_healthy_service v)) views) (codes "service")

-- a text, if the bridges do not converge
abbrev pub not_converged_text : Impact → List ℕ → List ℕ
not_converged_text base what = if is_converged base.convergence then [] else what

-- how many services are not healthy, and whether the bridges converge
abbrev pub summary_text : Impact → List ℕ
summary_text base = unhealthy_text base.views ++ not_converged_text base (codes ", bridges do not converge") ++ 10 ∷ []

-- the summary of a network that is not healthy
abbrev pub unhealthy_line : Criteria → Impact → List ℕ
unhealthy_line criteria base = codes "not healthy with " ++ calm_words criteria ++ codes ": " ++ summary_text base

-- that the network is healthy, or its summary
abbrev pub health_line : Criteria → Impact → List ℕ
health_line criteria base =
    if is_healthy base then codes "healthy with " ++ calm_words criteria ++ 10 ∷ [] else unhealthy_line criteria base

-- the lines of its health: each reason why it is not healthy, and the summary
abbrev pub health_text : Plan → Criteria → Impact → List ℕ
health_text plan criteria base =
    not_converged_text base (codes "bridges do not converge" ++ 10 ∷ []) ++ flat_map (reasons_text plan) base.views
    ++ health_line criteria base

-- the word before a failure that is accepted
abbrev pub mark_text : Criteria → List Acceptance → Impact → Impact → List ℕ
mark_text criteria acceptances base o = if is_accepted_impact criteria acceptances base o then codes "accepted " else []

-- the lines of a failure, unless the report leaves it out
abbrev pub impact_text : Plan → Criteria → List Acceptance → Impact → Impact → List ℕ
impact_text plan criteria acceptances base o =
    if is_left_out criteria base o then []
    else mark_text criteria acceptances base o ++ head_line plan o ++ flat_map (view_text plan criteria) (zip base.views o.views)

-- the number of analysed failures of a kind, if there are any
abbrev pub kind_text : ℕ → List ℕ → List ℕ
kind_text count noun = if count == 0 then [] else codes ", " ++ counted count noun

-- the number of analysed failures, by kind
abbrev pub checked_line : List Impact → List ℕ
checked_line impacts =
    codes "checked " ++ counted (count_by (λ o. is_link o.failure) impacts) (codes "link")
    ++ kind_text (count_by (λ o. is_bridge o.failure) impacts) (codes "bridge")
    ++ kind_text (count_by (λ o. is_pair o.failure) impacts) (codes "pair") ++ 10 ∷ []

-- the ticks of each bridge until they converged
abbrev pub ticks_of : Convergence → ℕ
ticks_of Given = 0
ticks_of (Converged ticks) = ticks
ticks_of (NotConverged ticks) = 0

-- the most of them after one of the failures
abbrev pub slowest : List Impact → ℕ
slowest [] = 0
slowest (o ∷ os) = max (ticks_of o.convergence) (slowest os)

-- the bridges ticked and converged
abbrev pub has_converged : Convergence → Bool
has_converged Given = false
has_converged (Converged ticks) = true
has_converged (NotConverged ticks) = false

-- the line of the most ticks until bridges converged
abbrev pub ticks_line : ℕ → List ℕ
ticks_line ticks = codes "converges within " ++ counted ticks (codes "tick") ++ 10 ∷ []

-- something failed, and the bridges ticked and converged after each failure
abbrev pub all_converged : List Impact → Bool
all_converged impacts = nat_lt 0 (length impacts) && list_all (λ o. has_converged o.convergence) impacts

-- the line of the most ticks, if they did
abbrev pub converge_line : List Impact → List ℕ
converge_line impacts = if all_converged impacts then ticks_line (slowest impacts) else []

-- how many of all failures do what is said
abbrev pub some_line : ℕ → ℕ → List ℕ → List ℕ
some_line count all what = decimal count ++ codes " of " ++ decimal all ++ codes " failures " ++ what ++ 10 ∷ []

-- that line, if any does
abbrev pub count_line : ℕ → ℕ → List ℕ → List ℕ
count_line count all what = if count == 0 then [] else some_line count all what

-- how many failures disconnect nothing, and how many do harm, by its kind
abbrev pub not_disconnecting_line : Criteria → Impact → List Impact → List ℕ
not_disconnecting_line criteria base impacts =
    count_line (count_by (λ o. not (disconnects criteria base o)) impacts) (length impacts) (codes "disconnect nothing")

abbrev pub accepted_line : Criteria → List Acceptance → Impact → List Impact → List ℕ
accepted_line criteria acceptances base impacts =
    count_line (count_by (is_accepted_impact criteria acceptances base) impacts) (length impacts) (codes "are accepted")

abbrev pub disconnecting_line : Criteria → List Acceptance → Impact → List Impact → List ℕ
disconnecting_line criteria acceptances base impacts =
    count_line (count_by (harms criteria acceptances base) impacts) (length impacts) (codes "disconnect a service")

abbrev pub looping_line : List Impact → List ℕ
looping_line impacts =
    count_line (count_by (λ o. not (are_forests o.views)) impacts) (length impacts) (codes "form a forwarding loop")

abbrev pub not_converged_line : List Impact → List ℕ
not_converged_line impacts =
    count_line (count_by (λ o. not (is_converged o.convergence)) impacts) (length impacts) (codes "do not converge")

-- what was checked, and how many failures do what
abbrev pub totals_text : Criteria → List Acceptance → Impact → List Impact → List ℕ
totals_text criteria acceptances base impacts =
    checked_line impacts ++ not_disconnecting_line criteria base impacts ++ converge_line impacts
    ++ accepted_line criteria acceptances base impacts ++ disconnecting_line criteria acceptances base impacts
    ++ looping_line impacts ++ not_converged_line impacts

-- what failed, from whether bridges did, and whether two links did
abbrev pub tried_words : Bool → Bool → List ℕ
tried_words false false = codes "any one link"
tried_words true false = codes "any one link or bridge"
tried_words false true = codes "any two links"
tried_words true true = codes "any two links or one bridge"

-- that it survives but for what is accepted, if something is
abbrev pub but_words : Bool → List ℕ
but_words accepted = if accepted then codes ", but for accepted disconnections" else []

-- what failed, by the failures that were analysed
abbrev pub tried_text : List Impact → List ℕ
tried_text impacts = tried_words (list_any (λ o. is_bridge o.failure) impacts) (list_any (λ o. is_pair o.failure) impacts)

-- that the network survives what failed
abbrev pub surviving_line : List Impact → Bool → List ℕ
surviving_line impacts accepted =
    codes "survives the failure of " ++ tried_text impacts ++ but_words accepted ++ 10 ∷ []

-- the last line, if the counts are not the last ones
abbrev pub last_line : Criteria → Impact → List Impact → Bool → Bool → List ℕ
last_line criteria base impacts survived accepted =
    if survived then surviving_line impacts accepted else (if is_healthy base then [] else unhealthy_line criteria base)

-- some failure is accepted
abbrev pub any_accepted : Criteria → List Acceptance → Impact → List Impact → Bool
any_accepted criteria acceptances base impacts = list_any (is_accepted_impact criteria acceptances base) impacts

-- the totals, the acceptances that are not needed, and the last line
abbrev pub ending_text : Plan → Criteria → List Acceptance → Impact → List Impact → List ℕ
ending_text plan criteria acceptances base impacts =
    totals_text criteria acceptances base impacts ++ stale_text plan criteria acceptances base impacts
    ++ last_line criteria base impacts (survives criteria acceptances base impacts) (any_accepted criteria acceptances base impacts)

-- the line of what is down before anything fails, if anything is
abbrev pub names_text : List (String Global) → List ℕ
names_text names = flat_map (λ w. 32 ∷ string_bytes w) names

abbrev pub downs_line : List (String Global) → List ℕ
downs_line names = if length names == 0 then [] else codes "down:" ++ names_text names ++ 10 ∷ []

-- the report on a network with nothing down, and under failures
abbrev pub report_text : Plan → Criteria → List Acceptance → Impact → List Impact → List ℕ
report_text plan criteria acceptances base impacts =
    whole_text plan criteria base ++ health_text plan criteria base ++ flat_map (impact_text plan criteria acceptances base) impacts
    ++ ending_text plan criteria acceptances base impacts
