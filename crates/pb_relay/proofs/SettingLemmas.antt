-- A port that is enabled or disabled, if the plan gives the states.
use Rattle.std.proofs.Common.{if◌then◌else◌, ◌≡◌, ℕ, ◌-◌, ◌≤◌, Bool, true, false, cond, not, List, [], get_or, ◌∷◌}
use Rattle.std.proofs.Common.{◌++◌, map, set, refl, sym, ap, ◌∙◌, subst, arith}
use Rattle.std.specs.List.{AllByRecursion, filter}
use Rattle.std.proofs.lemmas.List.{set-get_or}
use Rattle.pb_frame.specs.Stations.{is_fresh}
use Rattle.pb_lan.specs.Ports.{Port, port_at, is_provider, is_used}
use Rattle.pb_lan.specs.Ports.Port.{Customer, Provider, Unused}
use Rattle.pb_lan.specs.Queues.{is_full, own_class, is_refused}
use Rattle.pb_lan.specs.Rules.{is_same, planned_change, change_by, change_of, Change}
use Rattle.pb_relay.specs.Protocol.{spanning_tree}
use Rattle.pb_lan.specs.Rules.Cause.{Sets}
use Rattle.pb_lan.specs.Shapes.{state_after, start_of}
use Rattle.pb_lan.specs.Choice.{news_of}
use Rattle.pb_lan.specs.BridgeLists.{Fits, Names, own_item, AreRefused}
use Rattle.pb_lan.specs.declared.plan.Plan.{Plan}
use Rattle.pb_lan.specs.declared.plan.Spanning.{Spanning}
use Rattle.pb_lan.specs.declared.plan.Spanning.TheVariants.{Fixed}
use Rattle.pb_lan.specs.declared.shape.PortState.{PortState}
use Rattle.pb_lan.specs.declared.shape.PortState.TheVariants.{Discarding}
use Rattle.pb_lan.specs.declared.step.Item.{Item}
use Rattle.pb_lan.specs.declared.step.Moved.{Moved}
use Rattle.pb_lan.specs.declared.step.Step.{Step}
use Rattle.pb_lan.specs.declared.step.Step.TheVariants.{Admin}
use Rattle.pb_lan.proofs.StateLemmas.{same_state}
use Rattle.pb_relay.specs.PortKinds.{LocalPort, told}
use Rattle.pb_relay.specs.PortKinds.LocalPort.{ToBridge}
use Rattle.pb_relay.specs.Changes.{moved_by_setting, moved_to, state_set, ports_flushed}
use Rattle.pb_relay.specs.LocalPorts.{IsKept}
use Rattle.pb_relay.specs.Standing.{IsStanding}
use Rattle.pb_fdb.specs.Tables.{Table, flushed}
use Rattle.pb_relay.specs.Moves.{IsBridgePort, all_flushed, states_changed}
use Rattle.pb_relay.proofs.MovedLemmas.{after_unsent, stations_flushed}
use Rattle.pb_relay.proofs.VerdictLemmas.{at_port}

-- the state that the port gets
abbrev pub goal_of : Plan → ℕ → ℕ → Bool → PortState
goal_of plan b p up = if up then start_of Fixed (port_at plan b p) else Discarding

-- a port to a bridge is used
pub provider_used : (port : Port) → is_provider port ≡ true → is_used port ≡ true
provider_used (Provider e) h = refl
provider_used _ h = cc

-- the configuration of a port gives that state
pub state_set_is : (plan : Plan) (b p : ℕ) (local : LocalPort) (up : Bool) → is_provider (port_at plan b p) ≡ true
    → IsKept plan (port_at plan b p) local → state_set (told local) up ≡ goal_of plan b p up
state_set_is plan b p local up h k = by_port (port_at plan b p) local up h k
  where
    by_port : (port : Port) (local : LocalPort) (up : Bool) → is_provider port ≡ true → IsKept plan port local
        → state_set (told local) up ≡ cond up (start_of Fixed port) Discarding
    by_port (Provider e) (ToBridge start vids) true h k = k.0
    by_port (Provider e) (ToBridge start vids) false h k = refl
    by_port (Customer c) local up h k = cc
    by_port Unused local up h k = cc
    by_port _ _ up h k = absurd k

-- the report of the change
abbrev pub setting : Plan → ℕ → List Step → ℕ → Bool → Moved
setting plan b steps p up = moved_to p up (state_after plan b steps p) (goal_of plan b p up)

pub moved_is : (plan : Plan) (b : ℕ) (steps : List Step) (p : ℕ) (up : Bool)
    → setting plan b steps p up ≡ moved_by_setting plan b steps p up
moved_is plan b steps p true = refl
moved_is plan b steps p false = refl

-- the step may come after the earlier ones
pub set_fits : (plan : Plan) (b : ℕ) (steps : List Step) (p : ℕ) (up : Bool) → plan.spanning ≡ Fixed
    → is_provider (port_at plan b p) ≡ true
    → Fits spanning_tree plan b steps (Admin p up (moved_by_setting plan b steps p up))
set_fits plan b steps p up fixed provider = (provider, names)
  where
    same : planned_change plan b steps (Sets p up) ≡ change_of spanning_tree plan b steps (Sets p up)
    same = ap (λ (z : Spanning). change_by z spanning_tree plan b steps (Sets p up)) (sym fixed)

    none : (up : Bool) → (planned_change plan b steps (Sets p up)).sent ≡ []
    none true = refl
    none false = refl

    unsent : (change_of spanning_tree plan b steps (Sets p up)).sent ≡ []
    unsent = ap (λ (ch : Change). ch.sent) (sym same) ∙ none up

    names : Names spanning_tree plan b steps (Sets p up) (moved_by_setting plan b steps p up)
    names = record {
      states = ap (λ (ch : Change). ch.states) same;
      flushed = ap (λ (ch : Change). ch.flushed) same;
      queued = ap (λ (ss : List (ℕ × List ℕ)). map own_item (filter (λ s. not (is_refused [] s.0)) ss)) (sym unsent);
      replaced = refl;
      dropped = subst (λ (ss : List (ℕ × List ℕ)). AreRefused (is_full plan b steps (own_class plan.queues))
          (map (λ s. s.0) ss) []) (sym unsent) (refl, tt);
      own = tt;
    }

-- the bridge's state follows from its steps after a port was enabled or disabled
pub after_set : (plan : Plan) (b : ℕ) (steps : List Step) (states : List PortState) (queues : List (List (List Item)))
    (now : ℕ) (old new : Table) (p : ℕ) (up : Bool) (goal : PortState)
    → IsStanding plan b steps states queues now old.sightings → plan.spanning ≡ Fixed
    → is_provider (port_at plan b p) ≡ true → (1 ≤ p) × (p ≤ 16) → goal ≡ goal_of plan b p up
    → new ≡ cond up old (flushed old p)
    → IsStanding plan b (steps ++ Admin p up (moved_by_setting plan b steps p up) ∷ []) (set states (p - 1) goal)
    queues now new.sightings
after_set plan b steps states queues now old new p up goal s fixed provider l e t =
    subst (λ (m : Moved). IsStanding plan b (steps ++ Admin p up m ∷ []) (set states (p - 1) goal) queues now
    new.sightings) (moved_is plan b steps p up)
    (subst (λ (ss : List PortState). IsStanding plan b (steps ++ Admin p up (setting plan b steps p up) ∷ []) ss
    queues now new.sightings)
    states_are
    (after_unsent plan b steps states queues now now old.sightings new.sightings
    (Admin p up (setting plan b steps p up))
    (setting plan b steps p up).states
    (ports_flushed p up) s
    (subst (λ (m : Moved). Fits spanning_tree plan b steps (Admin p up m)) (sym (moved_is plan b steps p up))
    (set_fits plan b steps p up fixed provider))
    refl (λ r. refl) (λ r ws. refl) refl bridges (omega arith)
    (ap (λ (z : Table). filter (is_fresh plan.ageing now) z.sightings) (t ∙ flushes up)
    ∙ stations_flushed plan.ageing now (news_of plan b steps) old (ports_flushed p up) s.stations)))
  where
    flushes : (up : Bool) → cond up old (flushed old p) ≡ all_flushed old (ports_flushed p up)
    flushes true = refl
    flushes false = refl

    bridges : AllByRecursion (λ (c : ℕ × PortState). IsBridgePort plan b c.0)
        (setting plan b steps p up).states
    bridges = elim (is_same (state_after plan b steps p) (goal_of plan b p up)) as
        (λ t. AllByRecursion (λ (c : ℕ × PortState). IsBridgePort plan b c.0)
        (cond t [] ((p, goal_of plan b p up) ∷ [])))
        [ true ↦ tt | false ↦ ((provider, l.0, l.1), tt) ]

    there : get_or states (p - 1) Discarding ≡ state_after plan b steps p
    there = ap (λ ss. get_or ss (p - 1) Discarding) s.kept_states
        ∙ at_port (state_after plan b steps) p Discarding l.0 l.1

    states_are : states_changed states (setting plan b steps p up).states ≡ set states (p - 1) goal
    states_are = elim (is_same (state_after plan b steps p) (goal_of plan b p up)) as
        (λ t. is_same (state_after plan b steps p) (goal_of plan b p up) ≡ t
        → states_changed states (cond t [] ((p, goal_of plan b p up) ∷ [])) ≡ set states (p - 1) goal) [
          | true ↦ λ h. sym (set-get_or states (p - 1) Discarding)
              ∙ ap (set states (p - 1)) (there ∙ same_state _ _ h ∙ sym e)
          | false ↦ λ h. ap (set states (p - 1)) (sym e)
        ] refl
