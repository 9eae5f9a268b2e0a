-- The contents of a plan file, and when a file is refused.
use Rattle.std.specs.Prelude.{◌≡◌, ◌⊎◌, ℕ, codes, Bool, true, false, List, Some, None}
use Rattle.std.specs.List.{AllZip}
use Rattle.std.specs.Str.{IsUtf8}
use Rattle.toml.specs.Data.{Members, get_member}
use Rattle.toml.specs.Parse.{parse_document}
use Rattle.pb_lan.specs.Plans.{IsSound, default_ageing}
use Rattle.pb_lan.specs.declared.plan.Plan.{Plan}
use Rattle.pb_service.specs.declared.fault.PlanFault.{PlanFault}
use Rattle.pb_service.specs.declared.fault.PlanFault.TheVariants.{Utf8, Toml, Memory}
use Rattle.pb_lan.specs.declared.limits.Limits.{Limits}
use Rattle.pb_service.specs.declared.event.PortEvent.{PortEvent}
use Rattle.pb_service.specs.declared.tap.TapSpec.{TapSpec}
use Rattle.pb_service.specs.declared.port_spec.PortSpec.{PortSpec}
use Rattle.pb_service.specs.declared.section.Section.TheVariants.{Bridge, Link, Service, Port, Event, Tap}
use Rattle.pb_service.specs.Keys.{IsAccepted, first_unknown}
use Rattle.pb_service.specs.Formats.{top_keys, network_keys, bridge_keys, link_keys, service_keys, event_keys, tap_keys}
use Rattle.pb_service.specs.Told.{rows_of, table_told, spanning_of, queues_of}
use Rattle.pb_service.specs.Lossless.{is_lossless}
use Rattle.pb_service.specs.Events.{IsEventOf}
use Rattle.pb_service.specs.Taps.{IsTapOf}
use Rattle.pb_service.specs.Clocks.{has_two_clocks, holds_forever, is_vainly_prompt}
use Rattle.pb_service.specs.Tables.{number_at, text_at, prompt_told, lossless_told, limits_told, IsRead, IsReadPort, IsBridgeOf, IsLinkOf, IsServiceOf, IsCustomerOf, IsPortSpecOf}
use Rattle.pb_service.specs.Refusals.{Refuses, HasTables, ends_told, is_table, names_of}

-- the table of the network, or an empty one if the document has none
abbrev pub network_row : Members → Members
network_row document = table_told (get_member (codes "network") document)

-- the document has a table at the key of the network, or nothing
abbrev pub HasNetworkTable : Members → Type 0
HasNetworkTable document = is_table (get_member (codes "network") document) ≡ true

-- the parts of the plan that the table of the network determines
pub record TellsNetwork (row : Members) (plan : Plan) : Type 0 where
  pub keys : IsAccepted network_keys row
  pub spanning : plan.spanning ≡ spanning_of (text_at row (codes "spanning"))
  pub prompt : plan.prompt ≡ prompt_told row
  pub queues : plan.queues ≡ queues_of (text_at row (codes "queues"))
  pub not_vain : is_vainly_prompt plan.spanning plan.prompt ≡ false
  pub ageing : plan.ageing ≡ number_at row (codes "ageing") default_ageing 1000000
  pub ring : plan.ring ≡ number_at row (codes "ring") 64 4096
  pub steps : plan.steps ≡ number_at row (codes "steps") 18446744073709551615 18446744073709551615

-- the limits of a run that a document gives: bridges tick by one clock at most, and frames are held only if a clock
-- ticks
pub record AreLimitsOf (document : Members) (limits : Limits) : Type 0 where
  pub network_table : HasNetworkTable document
  pub told : limits ≡ limits_told (network_row document)
  pub one_clock : has_two_clocks limits ≡ false
  pub some_clock : holds_forever limits ≡ false

-- a run of the document's plan, with ports of these kinds, loses no frame because a queue is full
abbrev pub IsLosslessIn : Members → List PortSpec → Bool → Type 0
IsLosslessIn document specs result = result ≡ is_lossless (lossless_told (network_row document)) specs

-- the events of a document, one for each of its tables
pub record AreEventsOf (document : Members) (events : List PortEvent) : Type 0 where
  pub tables : HasTables document Event
  pub told : AllZip (IsRead (IsEventOf (names_of document Bridge) (ends_told document)) event_keys) (rows_of document Event) events

-- the taps of a document, one for each of its tables
pub record AreTapsOf (document : Members) (taps : List TapSpec) : Type 0 where
  pub tables : HasTables document Tap
  pub told : AllZip (IsRead (IsTapOf (names_of document Link) (limits_told (network_row document))) tap_keys) (rows_of document Tap) taps

-- the plan of a document, table by table, and the kind of each customer port
pub record IsPlanOf (document : Members) (plan : Plan) (specs : List PortSpec) : Type 0 where
  pub top : first_unknown top_keys document ≡ None
  pub network_table : HasNetworkTable document
  pub network : TellsNetwork (network_row document) plan
  pub bridge_tables : HasTables document Bridge
  pub link_tables : HasTables document Link
  pub service_tables : HasTables document Service
  pub port_tables : HasTables document Port
  pub bridges : AllZip (IsRead IsBridgeOf bridge_keys) (rows_of document Bridge) plan.bridges
  pub links : AllZip (IsRead (IsLinkOf (names_of document Bridge) (names_of document Service)) link_keys) (rows_of document Link) plan.links
  pub services : AllZip (IsRead IsServiceOf service_keys) (rows_of document Service) plan.services
  pub customers : AllZip (IsReadPort (IsCustomerOf (names_of document Bridge) (names_of document Service))) (rows_of document Port) plan.customers
  pub ports : AllZip (IsPortSpecOf (limits_told (network_row document))) (rows_of document Port) specs

-- the file is a TOML document with this property
abbrev pub Tells : List ℕ → (Members → Type 0) → Type 0
Tells file P = (document : Members) × (parse_document file ≡ Some document) × P document

-- the file contains a sound plan
abbrev pub IsPlanFile : List ℕ → Type 0
IsPlanFile file = (plan : Plan) × (specs : List PortSpec) × Tells file (λ document. IsPlanOf document plan specs) × IsSound plan

-- the file breaks the rule that the fault names
abbrev pub RefusesFile : List ℕ → PlanFault → Type 0
RefusesFile file Utf8 = IsUtf8 file → ⊥
RefusesFile file Toml = parse_document file ≡ None
RefusesFile file fault = (fault ≡ Memory) ⊎ Tells file (λ document. Refuses document fault)
