-- The acceptances that a document lists.
use Rattle.std.specs.Prelude.{◌≡◌, ◌⊎◌, ℕ, ◌==◌, List, [], ◌∷◌, codes, map, min, max, Some, None, if◌then◌else◌, is_some}
use Rattle.std.specs.declared.option.Option.{Option}
use Rattle.std.specs.Option.{option_map, option_and_then}
use Rattle.toml.specs.Data.{Data, Items, no_items, item, Members, get_member, as_str, as_array, as_table}
use Rattle.toml.specs.Parse.{parse_document}
use Rattle.pb_lan.specs.declared.plan.Plan.{Plan}
use Rattle.pb_service.specs.Keys.{first_unknown}
use Rattle.pb_service.specs.Told.{number_from}
use Rattle.pb_service.specs.declared.fault.PlanFault.{PlanFault}
use Rattle.pb_service.specs.declared.fault.PlanFault.TheVariants.{NoSuch as plan_lacks, Memory}
use Rattle.pb_accept.specs.declared.acceptance.Acceptance.{Acceptance}
use Rattle.pb_accept.specs.declared.acceptance.NamedFailure.{NamedFailure}
use Rattle.pb_accept.specs.declared.acceptance.NamedFailure.TheVariants.{Link, Bridge, Pair}
use Rattle.pb_accept.specs.declared.fault.AcceptFault.{AcceptFault}
use Rattle.pb_accept.specs.declared.fault.AcceptFault.TheVariants.{Rule, NoSuch}

-- the keys of the table of an acceptance, and those at the top of a file of acceptances
abbrev pub accept_keys : List (List ℕ)
accept_keys = codes "link" ∷ codes "bridge" ∷ codes "links" ∷ codes "service" ∷ []

abbrev pub top_keys : List (List ℕ)
top_keys = codes "accept" ∷ []

-- the number of the link, the bridge or the service that a value names, if the plan has it
abbrev pub link_told : Plan → Data → Option ℕ
link_told plan d = option_and_then (number_from 1 (map (λ l. l.name) plan.links)) (as_str d)

abbrev pub bridge_told : Plan → Data → Option ℕ
bridge_told plan d = option_and_then (number_from 1 (map (λ b. b.name) plan.bridges)) (as_str d)

abbrev pub service_told : Plan → Data → Option ℕ
service_told plan d = option_and_then (number_from 1 (map (λ s. s.name) plan.services)) (as_str d)

-- the failure of two different links, the first with the lower number
abbrev pub pair_of : ℕ → ℕ → Option NamedFailure
pair_of one other = if one == other then None else Some (Pair (min one other) (max one other))

-- the failure of the links that two values name
abbrev pub pair_in : Plan → Data → Data → Option NamedFailure
pair_in plan one other = option_and_then (λ a. option_and_then (pair_of a) (link_told plan other)) (link_told plan one)

-- the failure of the two links that a list names
abbrev pub pair_told : Plan → Items → Option NamedFailure
pair_told plan (item one (item other no_items)) = pair_in plan one other
pair_told plan items = None

-- the failure that the keys `link`, `bridge` and `links` name: exactly one of them is present
abbrev pub failure_told : Plan → Option Data → Option Data → Option Data → Option NamedFailure
failure_told plan (Some link) None None = option_map Link (link_told plan link)
failure_told plan None (Some bridge) None = option_map Bridge (bridge_told plan bridge)
failure_told plan None None (Some links) = option_and_then (pair_told plan) (as_array links)
failure_told plan link bridge links = None

abbrev pub row_failure : Plan → Members → Option NamedFailure
row_failure plan row = failure_told plan (get_member (codes "link") row) (get_member (codes "bridge") row) (get_member (codes "links") row)

-- the services: all without the key `service`, else the one that it names
abbrev pub services_told : Plan → Option Data → Option (Option ℕ)
services_told plan None = Some None
services_told plan (Some d) = option_map Some (service_told plan d)

-- a failure and its services, if both are known
abbrev pub both : Option NamedFailure → Option (Option ℕ) → Option Acceptance
both (Some failure) (Some service) = Some (record { failure = failure; service = service })
both failure service = None

-- the acceptance that a table describes, if it has no other keys
abbrev pub acceptance_told : Plan → Members → Option Acceptance
acceptance_told plan row =
    if is_some (first_unknown accept_keys row) then None
    else both (row_failure plan row) (services_told plan (get_member (codes "service") row))

abbrev pub entry_told : Plan → Data → Option Acceptance
entry_told plan d = option_and_then (acceptance_told plan) (as_table d)

-- the acceptances of a list, if each item describes one
abbrev pub entries_told : Plan → Items → Option (List Acceptance)
entries_told plan no_items = Some []
entries_told plan (item d ds) = option_and_then (λ a. option_map (λ later. a ∷ later) (entries_told plan ds)) (entry_told plan d)

-- the acceptances of a document: none without the key `accept`
abbrev pub list_told : Plan → Option Data → Option (List Acceptance)
list_told plan None = Some []
list_told plan (Some d) = option_and_then (entries_told plan) (as_array d)

abbrev pub document_told : Plan → Members → Option (List Acceptance)
document_told plan document = list_told plan (get_member (codes "accept") document)

-- the acceptances of a plan file, whose other keys have rules of their own
abbrev pub plan_file_told : Plan → List ℕ → Option (List Acceptance)
plan_file_told plan file = option_and_then (document_told plan) (parse_document file)

-- the acceptances of a file that has no other keys
abbrev pub alone_told : Plan → Members → Option (List Acceptance)
alone_told plan document = if is_some (first_unknown top_keys document) then None else document_told plan document

abbrev pub accept_file_told : Plan → List ℕ → Option (List Acceptance)
accept_file_told plan file = option_and_then (alone_told plan) (parse_document file)

-- an allocation failed
abbrev pub memory_fault : AcceptFault
memory_fault = Rule Memory

-- the fault as one of a plan file
abbrev pub plan_fault_of : AcceptFault → PlanFault
plan_fault_of (Rule fault) = fault
plan_fault_of (NoSuch index part name) = plan_lacks name

-- what was read is refused: it has no meaning, or an allocation failed
abbrev pub IsRefused : {X : Type 0} → Option X → AcceptFault → Type 0
IsRefused told fault = (fault ≡ memory_fault) ⊎ (told ≡ None)
