-- The facts that a picture shows of each part of a network.
use Rattle.std.specs.Prelude.{ℕ, Bool, true, false, not, List, Some, None, length, ◌==◌, ◌&&◌, ◌||◌, ◌/◌, nat_lt, nat_le}
use Rattle.std.specs.Prelude.{if◌then◌else◌, unwrap_or, count_by}
use Rattle.std.specs.Option.{option_map}
use Rattle.std.specs.declared.option.Option.{Option}
use Rattle.std.specs.List.{list_any}
use Rattle.pb_joins.specs.Joins.{mark_at}
use Rattle.pb_lan.specs.Numbering.{numbered, numbers_from}
use Rattle.pb_lan.specs.Shapes.{state_in, is_active, are_ends_forwarding}
use Rattle.pb_lan.specs.declared.plan.Plan.{Plan}
use Rattle.pb_lan.specs.declared.plan.LinkPlan.{LinkPlan}
use Rattle.pb_lan.specs.declared.plan.CustomerPlan.{CustomerPlan}
use Rattle.pb_lan.specs.declared.shape.PortState.TheVariants.{Discarding}
use Rattle.pb_lan.specs.declared.shape.Shape.{Shape}
use Rattle.pb_lan.specs.declared.plan.Spanning.{Spanning}
use Rattle.pb_lan.specs.declared.plan.Spanning.TheVariants.{Fixed, Rstp}
use Rattle.pb_names.specs.Numbers.{service_at}
use Rattle.pb_rstp.specs.Profile.{id_in}
use Rattle.pb_draw_layout.specs.declared.findings.Findings.{Findings}
use Rattle.pb_draw_layout.specs.declared.facts.DownEnds.{DownEnds}
use Rattle.pb_draw_layout.specs.declared.facts.Failures.{Failures}
use Rattle.pb_draw_layout.specs.declared.facts.LinkState.{LinkState}
use Rattle.pb_draw_layout.specs.declared.facts.LinkState.TheVariants.{Active, Standby, Failed}
use Rattle.pb_draw_layout.specs.declared.facts.Tone.{Tone}
use Rattle.pb_draw_layout.specs.declared.facts.Tone.TheVariants.{Plain, Lit, Faint}
use Rattle.pb_draw_layout.specs.declared.facts.BridgeFacts.{BridgeFacts}
use Rattle.pb_draw_layout.specs.declared.facts.LinkFacts.{LinkFacts}
use Rattle.pb_draw_layout.specs.declared.facts.PortFacts.{PortFacts}
use Rattle.pb_draw_layout.specs.declared.facts.ServiceFacts.{ServiceFacts}

-- a part is lit if it belongs to the chosen service, and faint if it does not
abbrev pub shade : Bool → Tone
shade true = Lit
shade false = Faint

-- a link is active for some service
abbrev pub carries_some : Plan → Shape → LinkPlan → Bool
carries_some plan shape link = list_any (λ s. is_active plan shape s.vid link) plan.services

-- a link is active for some service, or, in a plan without services, both its ends are Forwarding
abbrev pub is_active_link : Plan → Shape → LinkPlan → Bool
is_active_link plan shape link = if length plan.services == 0 then are_ends_forwarding shape link else carries_some plan shape link

-- the customer port is at the bridge and of the service
abbrev pub is_port_of : ℕ → ℕ → CustomerPlan → Bool
is_port_of service bridge c = c.bridge == bridge && c.service == service

-- a customer port of the service is at the bridge
abbrev pub has_port : Plan → ℕ → ℕ → Bool
has_port plan service bridge = list_any (is_port_of service bridge) plan.customers

-- the number is among these
abbrev pub is_among : List ℕ → ℕ → Bool
is_among numbers number = list_any (λ one. one == number) numbers

-- the link with the number ends at the bridge
abbrev pub touches : Plan → ℕ → ℕ → Bool
touches plan bridge link = unwrap_or (option_map (λ l. l.a.bridge == bridge || l.b.bridge == bridge) (numbered plan.links link)) false

-- a lit link ends at the bridge
abbrev pub has_lit_link : Plan → List ℕ → ℕ → Bool
has_lit_link plan lit bridge = list_any (touches plan bridge) lit

-- the tone of a bridge: it is lit if a customer port of the service or a lit link is at it
abbrev pub bridge_tone : Plan → Option ℕ → List ℕ → ℕ → Tone
bridge_tone plan None lit bridge = Plain
bridge_tone plan (Some service) lit bridge = shade (has_port plan service bridge || has_lit_link plan lit bridge)

-- the tone of a link, given the numbers of those that are lit
abbrev pub link_tone : Option ℕ → List ℕ → ℕ → Tone
link_tone None lit link = Plain
link_tone (Some service) lit link = shade (is_among lit link)

-- the tone of a service
abbrev pub service_tone : Option ℕ → ℕ → Tone
service_tone None service = Plain
service_tone (Some asked) service = shade (asked == service)

-- the bridge has failed
abbrev pub is_failed : Failures → ℕ → Bool
is_failed failed bridge = unwrap_or (numbered failed.bridges bridge) false

-- the disabled ends of a link
abbrev pub ends_failed : Failures → ℕ → DownEnds
ends_failed failed link = unwrap_or (numbered failed.links link) (record { a = false; b = false })

-- a link has failed if an end of it is disabled; else it is active or on standby
abbrev pub link_state : DownEnds → Bool → LinkState
link_state failed active = if failed.a || failed.b then Failed else if active then Active else Standby

-- the other bridge is in the same tree and has a lower identifier
abbrev pub precedes : Plan → List ℕ → ℕ → ℕ → Bool
precedes plan trees bridge other = mark_at trees other == mark_at trees bridge && nat_lt (id_in plan other) (id_in plan bridge)

-- some bridge of the same tree has a lower identifier
abbrev pub has_better : Plan → List ℕ → ℕ → Bool
has_better plan trees bridge = list_any (precedes plan trees bridge) (numbers_from 1 plan.bridges)

-- only bridges that run the protocol have a root
abbrev pub is_root_by : Spanning → Bool → Bool
is_root_by Fixed best = false
is_root_by Rstp best = best

-- a bridge is a root if it has not failed and no bridge of its tree has a lower identifier
abbrev pub is_root : Plan → Failures → List ℕ → ℕ → Bool
is_root plan failed trees bridge = is_root_by plan.spanning (not (is_failed failed bridge) && not (has_better plan trees bridge))

-- the service is the chosen one
abbrev pub is_chosen : Option ℕ → ℕ → Bool
is_chosen None service = false
is_chosen (Some asked) service = asked == service

-- the number of customer ports of the service
abbrev pub site_count : Plan → ℕ → ℕ
site_count plan service = count_by (λ c. c.service == service) plan.customers

-- the number of those at bridges with the mark
abbrev pub joined_count : Plan → List ℕ → ℕ → ℕ → ℕ
joined_count plan sites service mark = count_by (λ c. c.service == service && mark_at sites c.bridge == mark) plan.customers

-- the customer port is joined with at most half of its service's customer ports, itself included
abbrev pub is_apart : Plan → List ℕ → CustomerPlan → Bool
is_apart plan sites c = nat_le (joined_count plan sites c.service (mark_at sites c.bridge)) (site_count plan c.service / 2)

-- the customer port is of the chosen service, and apart
abbrev pub is_cut_off_by : Plan → Findings → CustomerPlan → Bool
is_cut_off_by plan found c = is_chosen found.chosen c.service && is_apart plan found.sites c

-- so is the customer port with the number
abbrev pub is_cut_off : Plan → Findings → ℕ → Bool
is_cut_off plan found number = unwrap_or (option_map (is_cut_off_by plan found) (numbered plan.customers number)) false

-- the facts of the bridge with a number
abbrev pub bridge_facts : Plan → Failures → Findings → ℕ → BridgeFacts
bridge_facts plan failed found number = record {
  number = number;
  is_failed = is_failed failed number;
  is_root = is_root plan failed found.trees number;
  tone = bridge_tone plan found.chosen found.lit number;
}

-- the facts of a link of the plan
abbrev pub known_facts : Plan → Shape → DownEnds → Tone → ℕ → LinkPlan → LinkFacts
known_facts plan shape failed tone number link = record {
  number = number;
  a = state_in shape link.a.bridge link.a.port;
  b = state_in shape link.b.bridge link.b.port;
  failed = failed;
  state = link_state failed (is_active_link plan shape link);
  tone = tone;
}

-- those facts, or a link on standby with Discarding ends if the plan lacks it
abbrev pub facts_of_link : Plan → Shape → DownEnds → Tone → ℕ → Option LinkPlan → LinkFacts
facts_of_link plan shape failed tone number None =
    record { number = number; a = Discarding; b = Discarding; failed = failed; state = Standby; tone = tone }
facts_of_link plan shape failed tone number (Some link) = known_facts plan shape failed tone number link

-- the facts of the link with a number
abbrev pub link_facts : Plan → Shape → Failures → Findings → ℕ → LinkFacts
link_facts plan shape failed found number =
    facts_of_link plan shape (ends_failed failed number) (link_tone found.chosen found.lit number) number (numbered plan.links number)

-- the facts of the customer port with a number
abbrev pub port_facts : Plan → Findings → ℕ → PortFacts
port_facts plan found number = record {
  number = number;
  service = service_at plan number;
  tone = service_tone found.chosen (service_at plan number);
  is_cut_off = is_cut_off plan found number;
}

-- the facts of the service with a number
abbrev pub service_facts : Option ℕ → ℕ → ServiceFacts
service_facts chosen number = record { number = number; tone = service_tone chosen number }
