-- The state of a bridge at its start.
use Rattle.std.proofs.Common.{◌≡◌, ◌≢◌, ◌==◌, true, false, eq-eqb, ap, subst, ℕ, ◌+◌, ◌-◌, ◌<◌, List, [], map, length}
use Rattle.std.proofs.Common.{get_or, set, replicate, refl, sym, ◌∙◌, arith}
use Rattle.std.proofs.lemmas.Bool.{eqb-true}
use Rattle.std.proofs.lemmas.List.{get_or-set_same, get_or-set_other, get_or-map, get_or-replicate, ext_get_or}
use Rattle.std.proofs.lemmas.Grind.{common_steps}
use Rattle.pb_frame.specs.Stations.{Sighting}
use Rattle.pb_lan.specs.Ports.{Port, port_at, local_ports}
use Rattle.pb_lan.specs.Ports.Port.{Customer, Provider, Unused}
use Rattle.pb_lan.specs.Shapes.{state_after, state_by, start_by}
use Rattle.pb_lan.specs.declared.plan.Plan.{Plan}
use Rattle.pb_lan.specs.declared.plan.Spanning.{Spanning}
use Rattle.pb_lan.specs.declared.step.Item.{Item}
use Rattle.pb_lan.specs.declared.shape.PortState.{PortState}
use Rattle.pb_lan.specs.declared.shape.PortState.TheVariants.{Discarding}
use Rattle.pb_relay.proofs.VerdictLemmas.{at_port}
use Rattle.pb_lan.specs.Queues.{capacity_of}
use Rattle.pb_lan.specs.declared.plan.Queues.{Queues}
use Rattle.pb_lan.specs.declared.plan.Queues.TheVariants.{PerPort, PerClass}
use Rattle.pb_relay.specs.Standing.{AreWithin}
use Rattle.pb_relay.specs.Classes.{no_items}
use Rattle.pb_relay.specs.LocalPorts.{IsKept}
use Rattle.pb_relay.specs.Standing.{IsStanding}
use Rattle.pb_relay.specs.Starts.{first_state, KeepsPorts}
use Rattle.pb_relay.specs.PortKinds.{LocalPort, told}
use Rattle.pb_relay.specs.PortKinds.LocalPort.{ToCustomer, ToBridge, ToNobody}

-- one step of the loop: one more state
pub states_more : (spanning : Spanning) (states : List PortState) (ports : List LocalPort) (r : ℕ) (s : PortState)
    → r < length states
    → ((k : ℕ) → k < r → get_or states k Discarding ≡ first_state spanning (told (get_or ports k ToNobody)))
    → s ≡ first_state spanning (told (get_or ports r ToNobody))
    → (k : ℕ) → k < r + 1 → get_or (set states r s) k Discarding ≡ first_state spanning (told (get_or ports k ToNobody))
states_more spanning states ports r s within below here k l =
    elim (k == r) as (λ t. (k == r) ≡ t → get_or (set states r s) k Discarding ≡ first_state spanning
    (told (get_or ports k ToNobody))) [
      | true ↦ λ e. subst (λ (n : ℕ). get_or (set states r s) n Discarding ≡ first_state spanning
          (told (get_or ports n ToNobody))) (sym (eqb-true k r e))
          (get_or-set_same states r s Discarding within ∙ here)
      | false ↦ λ e. let other : k ≢ r = (λ q. let t = eq-eqb k r q in cc) in
          get_or-set_other states r k s Discarding other ∙ below k (omega arith)
    ] refl

pub states_all : (spanning : Spanning) (states : List PortState) (ports : List LocalPort) → length states ≡ 16
    → length ports ≡ 16
    → ((k : ℕ) → k < 16 → get_or states k Discarding ≡ first_state spanning (told (get_or ports k ToNobody)))
    → states ≡ map (λ l. first_state spanning (told l)) ports
states_all spanning states ports a b each =
    ext_get_or Discarding states (map (λ l. first_state spanning (told l)) ports) (grind (arith, common_steps))
    (λ i l. each i (omega arith) ∙ sym (get_or-map (λ l. first_state spanning (told l)) ports i ToNobody Discarding
    (omega arith)))

-- a port starts in the state that the plan gives it
start_kept : (plan : Plan) (there : Port) (local : LocalPort) (p : ℕ) → IsKept plan there local
    → first_state plan.spanning (told local) ≡ state_by plan.spanning there p []
start_kept plan (Customer c) (ToCustomer vid pcp) p k = refl
start_kept plan (Provider e) (ToBridge start vids) p k = ap (start_by plan.spanning) k.0
start_kept plan Unused ToNobody p k = refl
start_kept plan _ _ p k = absurd k

-- the bridge's state at its start follows from its empty list of steps
pub started : (plan : Plan) (number : ℕ) (ports : List LocalPort) (states : List PortState)
    (queues : List (List (List Item))) (table : List Sighting)
    → KeepsPorts plan number ports 16 → states ≡ map (λ l. first_state plan.spanning (told l)) ports
    → queues ≡ replicate 16 no_items → table ≡ []
    → IsStanding plan number [] states queues 0 table
started plan number ports states queues table keeps states_are queues_are table_is = record {
  lawful = tt;
  kept_states = states_are ∙ ext_get_or Discarding (map (λ l. first_state plan.spanning (told l)) ports)
      (map (state_after plan number []) local_ports) (grind (arith, common_steps, keeps.count)) each;
  count = grind (arith, common_steps, queues_are);
  kept_queues = λ r l. rw queues_are (get_or-replicate 16 r no_items [] l);
  classes = λ r. tt;
  within = λ r. none_within plan.queues;
  clock = refl;
  stations = rw table_is refl;
}
  where
    none_within : (queues : Queues) → AreWithin queues (capacity_of plan number) []
    none_within PerPort = omega arith
    none_within PerClass = λ class. omega arith

    each : (i : ℕ) → i < length (map (λ l. first_state plan.spanning (told l)) ports)
        → get_or (map (λ l. first_state plan.spanning (told l)) ports) i Discarding ≡ get_or
        (map (state_after plan number []) local_ports) i Discarding
    each i l =
        let few : i < 16 = grind (arith, common_steps, keeps.count) in
        let s : i + 1 - 1 ≡ i = omega arith in
        let here : get_or (map (state_after plan number []) local_ports) (i + 1 - 1) Discarding ≡ state_after plan
        number [] (i + 1) =
        at_port (state_after plan number []) (i + 1) Discarding (omega arith) (omega arith) in
        let there = keeps.count in
        get_or-map (λ l. first_state plan.spanning (told l)) ports i ToNobody Discarding (omega arith)
        ∙ start_kept plan (port_at plan number (i + 1)) (get_or ports i ToNobody) (i + 1) (keeps.kept i few)
        ∙ sym (rw s at here)
