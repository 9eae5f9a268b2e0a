-- The report on the change from one plan to another.
use Rattle.std.specs.Prelude.{ℕ, Bool, true, false, List, [], ◌∷◌, ◌++◌, Option, Some, None, map, flat_map, length, codes, ◌==◌, ◌&&◌, not, max, count_by, if◌then◌else◌}
use Rattle.std.specs.Fmt.{decimal}
use Rattle.std.specs.List.{list_any}
use Rattle.pb_frame.specs.Admission.{same}
use Rattle.pb_frame.specs.Lists.{first}
use Rattle.pb_lan.specs.Numbering.{numbered, numbers_from}
use Rattle.pb_lan.specs.declared.plan.Plan.{Plan}
use Rattle.pb_names.specs.Names.{link_name, port_name, service_name, role_word, state_word}
use Rattle.pb_plan_diff.specs.Differences.{plan_lines}
use Rattle.pb_converge.specs.declared.convergence.Convergence.{Convergence}
use Rattle.pb_cmd_survive.specs.Reports.{failure_text, has_converged, ticks_of}
use Rattle.pb_cmd_survive.specs.Verdicts.{is_converged}
use Rattle.pb_cmd_survive.specs.declared.failure.Failure.{Failure}
use Rattle.pb_cmd_survive.specs.declared.failure.Failure.TheVariants.{Nothing, Link, Pair, Bridge}
use Rattle.pb_cmd_diff.specs.Cases.{link_in}
use Rattle.pb_cmd_diff.specs.Members.{swapped, is_torn}
use Rattle.pb_cmd_diff.specs.Verdicts.{is_worse, is_better}
use Rattle.pb_cmd_diff.specs.declared.case.Case.{Case}
use Rattle.pb_cmd_diff.specs.declared.ends.EndView.{EndView}
use Rattle.pb_cmd_diff.specs.declared.ends.EndView.TheVariants.{Given, Computed}
use Rattle.pb_cmd_diff.specs.declared.ends.LinkEnds.{LinkEnds}
use Rattle.pb_cmd_diff.specs.declared.member.Member.{Member}
use Rattle.pb_cmd_diff.specs.declared.effect.Effect.{Effect}
use Rattle.pb_cmd_diff.specs.declared.effect.ServiceChange.{ServiceChange}

-- what is down, by the names of the plan that has all of it
abbrev pub case_text : Plan → Plan → Case → List ℕ
case_text old new c = if c.is_new then failure_text new c.new else failure_text old c.old

-- the two are in one group of OLD; in one group of both plans
abbrev pub is_together : Member → Member → Bool
is_together m n = m.old == n.old

abbrev pub is_still : Member → Member → Bool
is_still m n = m.old == n.old && m.new == n.new

-- the port is the first one that passes the test
abbrev pub is_port : Option Member → Member → Bool
is_port None m = false
is_port (Some n) m = n.port == m.port

abbrev pub leads : (Member → Bool) → List Member → Member → Bool
leads test ms m = is_port (first test ms) m

-- a port that is still with this one, after a space
abbrev pub mate_text : Plan → Member → Member → List ℕ
mate_text old m n = if is_still m n then 32 ∷ port_name old n.port else []

-- all of them
abbrev pub mates_text : Plan → List Member → Member → List ℕ
mates_text old ms m = flat_map (mate_text old m) ms

-- the first of the ports that were with this one, are not any more, and are still with each other
abbrev pub is_next : List Member → Member → Member → Bool
is_next ms m n = is_together m n && not (is_still m n) && leads (is_still n) ms n

-- that port and those still with it, after a bar
abbrev pub next_text : Plan → List Member → Member → Member → List ℕ
next_text old ms m n = if is_next ms m n then codes " |" ++ mates_text old ms n else []

-- the ports that were with this one, with a bar between those that are not together any more
abbrev pub apart_line : List ℕ → Plan → List Member → Member → List ℕ
apart_line head old ms m = head ++ mates_text old ms m ++ flat_map (next_text old ms m) ms ++ 10 ∷ []

-- the line of a group of OLD that is disconnected, for its first port
abbrev pub disconnected_line : List ℕ → Plan → List Member → Member → List ℕ
disconnected_line head old ms m = if leads (is_together m) ms m && is_torn ms m then apart_line head old ms m else []

-- the lines of all such groups
abbrev pub disconnected_lines : List ℕ → Plan → List Member → List ℕ
disconnected_lines head old ms = flat_map (disconnected_line head old ms) ms

-- the service, and what is down
abbrev pub service_head : Plan → Plan → Case → ℕ → List ℕ
service_head old new c service = codes "service " ++ service_name old service ++ codes ": " ++ case_text old new c ++ codes ": "

-- whether the service forms a loop, if that has changed
abbrev pub loop_words : Bool → Bool → List ℕ
loop_words true true = []
loop_words false false = []
loop_words true false = codes "now forms a forwarding loop" ++ 10 ∷ []
loop_words false true = codes "no longer forms a forwarding loop" ++ 10 ∷ []

abbrev pub loop_line : List ℕ → Bool → Bool → List ℕ
loop_line head was_forest is_forest =
    if length (loop_words was_forest is_forest) == 0 then [] else head ++ loop_words was_forest is_forest

-- the lines of a service, after what it is and what is down
abbrev pub change_lines : List ℕ → Plan → ServiceChange → List ℕ
change_lines head old s =
    disconnected_lines (head ++ codes "no longer reach each other:") old s.members
    ++ disconnected_lines (head ++ codes "now reach each other:") old (map swapped s.members)
    ++ loop_line head s.was_forest s.is_forest

-- the lines of the service with this number among those compared, under a failure
abbrev pub change_by : Plan → Plan → Case → Option ServiceChange → List ℕ
change_by old new what None = []
change_by old new what (Some s) = change_lines (service_head old new what s.service) old s

abbrev pub change_at : Plan → Plan → ℕ → Effect → List ℕ
change_at old new number o = change_by old new o.what (numbered o.services number)

-- the lines of a service, with nothing down and under each failure
abbrev pub service_lines : Plan → Plan → Effect → List Effect → ℕ → List ℕ
service_lines old new base effects number = change_at old new number base ++ flat_map (change_at old new number) effects

-- role and state of an end of a link, or its state alone if the plan gives it
abbrev pub end_words : EndView → List ℕ
end_words (Given state) = state_word state
end_words (Computed role state) = role_word role ++ codes " " ++ state_word state

abbrev pub ends_words : LinkEnds → List ℕ
ends_words ends = codes "a " ++ end_words ends.a ++ codes ", b " ++ end_words ends.b

-- the line of a link, if its ends differ
abbrev pub ends_change : List ℕ → LinkEnds → LinkEnds → List ℕ
ends_change name was is =
    if same (ends_words was) (ends_words is) then []
    else codes "link " ++ name ++ codes " with nothing down: " ++ ends_words was ++ codes " -> " ++ ends_words is ++ 10 ∷ []

-- that line, if both plans have the link
abbrev pub ends_by : Plan → ℕ → Option LinkEnds → Option LinkEnds → List ℕ
ends_by old number None is = []
ends_by old number (Some was) None = []
ends_by old number (Some was) (Some is) = ends_change (link_name old number) was is

abbrev pub ends_line : Plan → Plan → List LinkEnds → List LinkEnds → ℕ → List ℕ
ends_line old new olds news number = ends_by old number (numbered olds number) (numbered news (link_in old new number))

-- whether the bridges converge, if that has changed
abbrev pub convergence_words : Bool → Bool → List ℕ
convergence_words true true = []
convergence_words false false = []
convergence_words true false = codes ": bridges no longer converge" ++ 10 ∷ []
convergence_words false true = codes ": bridges now converge" ++ 10 ∷ []

abbrev pub convergence_line : Plan → Plan → Effect → List ℕ
convergence_line old new o =
    if length (convergence_words (is_converged o.old) (is_converged o.new)) == 0 then []
    else case_text old new o.what ++ convergence_words (is_converged o.old) (is_converged o.new)

-- how driving each plan's network ended, under what fails in it
abbrev pub is_nothing : Failure → Bool
is_nothing Nothing = true
is_nothing (Link number) = false
is_nothing (Pair first second) = false
is_nothing (Bridge number) = false

abbrev pub old_convergence : Effect → List Convergence
old_convergence o = if is_nothing o.what.old then [] else o.old ∷ []

abbrev pub new_convergence : Effect → List Convergence
new_convergence o = if is_nothing o.what.new then [] else o.new ∷ []

-- the most ticks until bridges converged
abbrev pub most_ticks : List Convergence → ℕ
most_ticks [] = 0
most_ticks (convergence ∷ convergences) = max (ticks_of convergence) (most_ticks convergences)

abbrev pub ticks_words : List Convergence → List ℕ
ticks_words convergences = if list_any has_converged convergences then decimal (most_ticks convergences) else codes "none"

-- the line of these, if they differ
abbrev pub ticks_line : List Convergence → List Convergence → List ℕ
ticks_line olds news =
    if same (ticks_words olds) (ticks_words news) then []
    else codes "most ticks to convergence: " ++ ticks_words olds ++ codes " -> " ++ ticks_words news ++ 10 ∷ []

-- all differences
abbrev pub body_text : Plan → Plan → Effect → List Effect → List LinkEnds → List LinkEnds → List ℕ
body_text old new base effects olds news =
    plan_lines old new
    ++ flat_map (service_lines old new base effects) (numbers_from 1 base.services)
    ++ flat_map (ends_line old new olds news) (numbers_from 1 old.links)
    ++ convergence_line old new base ++ flat_map (convergence_line old new) effects
    ++ ticks_line (flat_map old_convergence effects) (flat_map new_convergence effects)

-- how the network has changed, if something got better or worse
abbrev pub verdict_word : Bool → Bool → List ℕ
verdict_word true true = codes "better and worse"
verdict_word true false = codes "better"
verdict_word false true = codes "worse"
verdict_word false false = codes "no change"

-- how many of all failures
abbrev pub count_words : ℕ → ℕ → List ℕ
count_words count all = decimal count ++ codes " of " ++ decimal all ++ codes " failures"

-- under how many failures something got better, and worse
abbrev pub counts_words : List Effect → List ℕ
counts_words effects =
    codes "better: " ++ count_words (count_by is_better effects) (length effects)
    ++ codes "; worse: " ++ count_words (count_by is_worse effects) (length effects)

-- the last line
abbrev pub summary_line : Effect → List Effect → List ℕ
summary_line base effects =
    counts_words effects ++ codes "; with nothing down: " ++ verdict_word (is_better base) (is_worse base) ++ 10 ∷ []

-- how the network has changed under a failure
abbrev pub failure_line : Plan → Plan → Effect → List ℕ
failure_line old new o = case_text old new o.what ++ codes ": " ++ verdict_word (is_better o) (is_worse o) ++ 10 ∷ []

-- the lines of all failures, if they are asked for
abbrev pub failure_lines : Plan → Plan → Bool → List Effect → List ℕ
failure_lines old new all effects = if all then flat_map (failure_line old new) effects else []

-- the last line, or that there is no difference
abbrev pub ending : List ℕ → List ℕ → List ℕ
ending body summary = if length body == 0 then codes "no difference" ++ 10 ∷ [] else summary

-- the report: the differences, the lines of failures, and the last line
abbrev pub diff_text : Plan → Plan → Bool → Effect → List Effect → List LinkEnds → List LinkEnds → List ℕ
diff_text old new all base effects olds news =
    body_text old new base effects olds news ++ failure_lines old new all effects
    ++ ending (body_text old new base effects olds news) (summary_line base effects)
