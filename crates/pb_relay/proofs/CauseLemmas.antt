-- What a cause changes at a bridge that has a spanning tree machine.
use Rattle.std.proofs.Common.{◌≡◌, ◌≢◌, ℕ, ◌-◌, ◌<◌, ◌≤◌, Bool, true, false, not, cond, Some, None, List, [], ◌∷◌}
use Rattle.std.proofs.Common.{◌++◌, map, length, refl, sym, ap, ◌∙◌, subst, arith, append-nil}
use Rattle.std.specs.List.{AllByRecursion, filter, flat_map}
use Rattle.std.specs.Option.{option_map}
use Rattle.std.specs.declared.option.Option.{Option}
use Rattle.pb_bpdu.specs.Layout.{written}
use Rattle.pb_bpdu.specs.declared.bpdu.Bpdu.{Bpdu}
use Rattle.pb_frame.specs.Admission.{provider_address}
use Rattle.pb_frame.specs.Frames.{dst_of}
use Rattle.pb_lan.specs.BridgeLists.{Names, IsOwn, own_item, AreRefused, replaced_by}
use Rattle.pb_lan.specs.Ports.{port_at}
use Rattle.pb_lan.specs.Queues.{is_full, own_class, is_refused}
use Rattle.pb_lan.specs.Rules.{Cause, change_by, change_of, Change as LanChange}
use Rattle.pb_lan.specs.declared.plan.Plan.{Plan}
use Rattle.pb_lan.specs.declared.plan.Spanning.{Spanning}
use Rattle.pb_lan.specs.declared.plan.Spanning.TheVariants.{Fixed, Rstp}
use Rattle.pb_lan.specs.declared.shape.PortState.{PortState}
use Rattle.pb_lan.specs.declared.step.Moved.{Moved}
use Rattle.pb_lan.specs.declared.step.NoRoom.{NoRoom}
use Rattle.pb_lan.specs.declared.step.Step.{Step}
use Rattle.pb_rstp.proofs.FittingLaws.{IsOf, GoesToBridge, plan_changes}
use Rattle.pb_rstp.specs.Ports.{Machine}
use Rattle.pb_rstp.specs.Profile.{after, machine_of, machine_after, machine_at_start, causes_of, address_in}
use Rattle.pb_rstp.specs.Profile.{lan_change}
use Rattle.pb_rstp.specs.Rising.{AreRising}
use Rattle.pb_rstp.specs.declared.change.Change.{Change}
use Rattle.pb_relay.specs.Bpdus.{frames_of}
use Rattle.pb_relay.specs.Copies.{AreSeparate}
use Rattle.pb_relay.specs.Machines.{machine_by, machine_in, machine_next, change_next, IsSpanning}
use Rattle.pb_relay.specs.Moves.{own_queued, places_of, IsBridgePort}
use Rattle.pb_relay.specs.Protocol.{spanning_tree}
use Rattle.std.proofs.lemmas.Grind.{flat_map-append}

-- The machine.

machine_after-append : (machine : Machine) (xs ys : List Cause)
    → machine_after machine (xs ++ ys) ≡ machine_after (machine_after machine xs) ys
machine_after-append machine [] ys = refl
machine_after-append machine (x ∷ xs) ys = machine_after-append (after machine x).machine xs ys

-- the machine after one more step
machine-more : (plan : Plan) (b : ℕ) (steps : List Step) (step : Step)
    → machine_of plan b (steps ++ step ∷ []) ≡ machine_after (machine_of plan b steps) (causes_of step)
machine-more plan b steps step =
    ap (machine_after (machine_at_start plan b))
    (flat_map-append causes_of steps (step ∷ []) ∙ ap (λ cs. flat_map causes_of steps ++ cs)
    (append-nil (causes_of step)))
    ∙ machine_after-append (machine_at_start plan b) (flat_map causes_of steps) (causes_of step)

-- a step that is no cause leaves the machine unchanged
pub machine_stays : (plan : Plan) (b : ℕ) (steps : List Step) (step : Step) → causes_of step ≡ []
    → machine_in plan b (steps ++ step ∷ []) ≡ machine_in plan b steps
unfolding machine_in
machine_stays plan b steps step e = ap (machine_by plan.spanning)
    (machine-more plan b steps step ∙ ap (machine_after (machine_of plan b steps)) e)

-- a step with a cause changes the machine as the cause does
pub machine_moves : (plan : Plan) (b : ℕ) (steps : List Step) (step : Step) (cause : Cause)
    → causes_of step ≡ cause ∷ []
    → machine_in plan b (steps ++ step ∷ []) ≡ machine_next (machine_in plan b steps) cause
unfolding machine_in machine_next
machine_moves plan b steps step cause e =
    ap (machine_by plan.spanning) (machine-more plan b steps step ∙ ap (machine_after (machine_of plan b steps)) e)
    ∙ by_plan plan.spanning
  where
    by_plan : (z : Spanning) → machine_by z (after (machine_of plan b steps) cause).machine ≡ option_map
        (λ m. (after m cause).machine) (machine_by z (machine_of plan b steps))
    by_plan Fixed = refl
    by_plan Rstp = refl

-- there is no machine if the plan gives the states
pub no_machine : (plan : Plan) (b : ℕ) (steps : List Step) → plan.spanning ≡ Fixed → machine_in plan b steps ≡ None
unfolding machine_in
no_machine plan b steps fixed = ap (λ z. machine_by z (machine_of plan b steps)) fixed

-- there is a machine if the protocol decides the states
pub a_machine : (plan : Plan) (b : ℕ) (steps : List Step) → plan.spanning ≡ Rstp
    → machine_in plan b steps ≡ Some (machine_of plan b steps)
unfolding machine_in
a_machine plan b steps rstp = ap (λ z. machine_by z (machine_of plan b steps)) rstp

-- a step that is no cause leaves a bridge's spanning tree the one that its steps determine
pub spanning_stays : (plan : Plan) (b : ℕ) (steps : List Step) (machine : Option Machine) (address : List ℕ)
    (step : Step) → causes_of step ≡ []
    → IsSpanning plan b steps machine address → IsSpanning plan b (steps ++ step ∷ []) machine address
spanning_stays plan b steps machine address step e s =
    record { kept_machine = s.kept_machine ∙ sym (machine_stays plan b steps step e); kept_address = s.kept_address }

-- if the plan gives the states, each step does
pub spanning_fixed : (plan : Plan) (b : ℕ) (steps : List Step) (machine : Option Machine) (address : List ℕ)
    (step : Step) → plan.spanning ≡ Fixed
    → IsSpanning plan b steps machine address → IsSpanning plan b (steps ++ step ∷ []) machine address
spanning_fixed plan b steps machine address step fixed s = record {
  kept_machine = s.kept_machine ∙ no_machine plan b steps fixed ∙ sym (no_machine plan b (steps ++ step ∷ []) fixed);
  kept_address = s.kept_address;
}

-- a step with a cause does if the spanning tree changes as the cause does
pub spanning_moves : (plan : Plan) (b : ℕ) (steps : List Step) (machine later : Option Machine) (address : List ℕ)
    (step : Step) (cause : Cause) → causes_of step ≡ cause ∷ []
    → later ≡ machine_next machine cause → IsSpanning plan b steps machine address
    → IsSpanning plan b (steps ++ step ∷ []) later address
spanning_moves plan b steps machine later address step cause e l s = record {
  kept_machine = l ∙ ap (λ m. machine_next m cause) s.kept_machine ∙ sym (machine_moves plan b steps step cause e);
  kept_address = s.kept_address;
}

-- a bridge without a machine has its states from the plan
pub is_fixed : (plan : Plan) (b : ℕ) (steps : List Step) (machine : Option Machine) (address : List ℕ) (cause : Cause)
    → IsSpanning plan b steps machine address
    → change_next machine cause ≡ None → plan.spanning ≡ Fixed
unfolding machine_in change_next
is_fixed plan b steps machine address cause s none =
    by_plan plan.spanning (ap (option_map (λ m. (after m cause).change)) (sym s.kept_machine) ∙ none)
  where
    by_plan : (z : Spanning) → option_map (λ m. (after m cause).change) (machine_by z (machine_of plan b steps))
        ≡ None → z ≡ Fixed
    by_plan Fixed e = refl
    by_plan Rstp e = cc

-- a bridge without a machine has none after a cause
pub stays_none : (machine : Option Machine) (cause : Cause) → change_next machine cause ≡ None
    → machine_next machine cause ≡ machine
unfolding machine_next change_next
stays_none None cause e = refl
stays_none (Some m) cause e = cc

-- a bridge with a machine runs the protocol, and the change is the machine's
pub is_running : (plan : Plan) (b : ℕ) (steps : List Step) (machine : Option Machine) (address : List ℕ)
    (cause : Cause) (change : Change) → IsSpanning plan b steps machine address
    → change_next machine cause ≡ Some change → (plan.spanning ≡ Rstp)
    × (change ≡ (after (machine_of plan b steps) cause).change)
unfolding machine_in change_next
is_running plan b steps machine address cause change s some =
    by_plan plan.spanning (ap (option_map (λ m. (after m cause).change)) (sym s.kept_machine) ∙ some)
  where
    by_plan : (z : Spanning) → option_map (λ m. (after m cause).change) (machine_by z (machine_of plan b steps))
        ≡ Some change → (z ≡ Rstp) × (change ≡ (after (machine_of plan b steps) cause).change)
    by_plan Fixed e = cc
    by_plan Rstp e = (refl, let same : (after (machine_of plan b steps) cause).change ≡ change = cc in sym same)

-- The report.

tree_change : (plan : Plan) (b : ℕ) (steps : List Step) (cause : Cause) → plan.spanning ≡ Rstp
    → change_of spanning_tree plan b steps cause ≡ lan_change (address_in plan b)
    (after (machine_of plan b steps) cause).change
unfolding spanning_tree
tree_change plan b steps cause rstp = ap (λ (z : Spanning). change_by z spanning_tree plan b steps cause) rstp

for_bridges : (address : List ℕ) (m : Bpdu) → dst_of (written address m) ≡ provider_address
for_bridges address m = refl

-- the items that a bridge queues for its BPDUs are the bridge's own
all_own : (plan : Plan) (b : ℕ) (address : List ℕ) (dropped : List (ℕ × NoRoom)) (send : List (ℕ × Bpdu))
    → AllByRecursion (λ (s : ℕ × Bpdu). GoesToBridge (port_at plan b) s.0) send
    → AllByRecursion (IsOwn plan b) (own_queued dropped (frames_of address send))
all_own plan b address dropped [] h = tt
all_own plan b address dropped (s ∷ ss) h = by_test (is_refused dropped s.0) (all_own plan b address dropped ss h.1)
  where
    by_test : (t : Bool) → AllByRecursion (IsOwn plan b) (own_queued dropped (frames_of address ss))
        → AllByRecursion (IsOwn plan b)
        (map own_item (cond (not t)
        ((s.0, written address s.1) ∷ filter (λ (z : ℕ × List ℕ). not (is_refused dropped z.0))
        (frames_of address ss)) (filter (λ (z : ℕ × List ℕ). not (is_refused dropped z.0))
        (frames_of address ss))))
    by_test true rest = rest
    by_test false rest = ((refl, refl, for_bridges address s.1, h.0.0), rest)

-- a step that reports what the machine changes reports what its cause changes
pub names_change : (plan : Plan) (b : ℕ) (steps : List Step) (cause : Cause) (change : Change) (moved : Moved)
    (sends : List (ℕ × List ℕ))
    → plan.spanning ≡ Rstp → change ≡ (after (machine_of plan b steps) cause).change
    → sends ≡ frames_of (address_in plan b) change.send
    → moved.states ≡ change.states → moved.flushed ≡ change.flush
    → moved.queued ≡ own_queued moved.dropped sends → moved.replaced ≡ replaced_by plan b steps moved.queued
    → AreRefused (is_full plan b steps (own_class plan.queues)) (places_of sends) moved.dropped
    → Names spanning_tree plan b steps cause moved
names_change plan b steps cause change moved sends rstp c f told flushed q replaced r = record {
  states = told ∙ ap (λ (x : LanChange). x.states) same;
  flushed = flushed ∙ ap (λ (x : LanChange). x.flushed) same;
  queued = q ∙ ap (own_queued moved.dropped) sent;
  replaced = replaced;
  dropped = subst (λ (ss : List (ℕ × List ℕ)). AreRefused (is_full plan b steps (own_class plan.queues)) (places_of ss)
      moved.dropped) sent r;
  own = subst (AllByRecursion (IsOwn plan b)) (sym (q ∙ ap (own_queued moved.dropped) f))
      (all_own plan b (address_in plan b) moved.dropped change.send
      (subst (λ (x : Change). AllByRecursion (λ (s : ℕ × Bpdu). GoesToBridge (port_at plan b) s.0) x.send) (sym c)
      (plan_changes plan b steps cause).send));
}
  where
    same : lan_change (address_in plan b) change ≡ change_of spanning_tree plan b steps cause
    same = ap (lan_change (address_in plan b)) c ∙ sym (tree_change plan b steps cause rstp)

    sent : sends ≡ (change_of spanning_tree plan b steps cause).sent
    sent = f ∙ ap (λ (x : LanChange). x.sent) same

-- The ports of the BPDUs.

rising-separate : (n : ℕ) (address : List ℕ) (send : List (ℕ × Bpdu))
    → AllByRecursion (λ (s : ℕ × Bpdu). (1 ≤ s.0) × (s.0 ≤ 16)) send → AreRising n (map (λ s. s.0) send)
    → AreSeparate (places_of (frames_of address send)) × (length send ≤ 16 - n)
rising-separate n address [] h r = (tt, omega arith)
rising-separate n address (s ∷ ss) h r =
    let rest = rising-separate s.0 address ss h.1 r.1 in
    ((h.0, others s.0 s.0 (omega arith) ss r.1, rest.0), omega (arith, rest.1, h.0.1, r.0.0))
  where
    others : (p m : ℕ) → p ≤ m → (zs : List (ℕ × Bpdu)) → AreRising m (map (λ s. s.0) zs)
        → AllByRecursion (λ q. q ≢ p) (places_of (frames_of address zs))
    others p m l [] k = tt
    others p m l (z ∷ zs) k = (
      (λ e. let k0 : m < z.0 = k.0.0 in omega arith),
      others p z.0 (let k0 : m < z.0 = k.0.0 in omega arith) zs
          k.1,
    )

bridge-places : (plan : Plan) (b : ℕ) (send : List (ℕ × Bpdu))
    → AllByRecursion (λ (s : ℕ × Bpdu). GoesToBridge (port_at plan b) s.0) send
    → AllByRecursion (λ (s : ℕ × Bpdu). (1 ≤ s.0) × (s.0 ≤ 16)) send
bridge-places plan b [] h = tt
bridge-places plan b (s ∷ ss) h = ((h.0.1, h.0.2), bridge-places plan b ss h.1)

-- a machine sends at most one BPDU at each local port
pub sends_apart : (plan : Plan) (b : ℕ) (steps : List Step) (cause : Cause) (change : Change) (address : List ℕ)
    → change ≡ (after (machine_of plan b steps) cause).change
    → AreSeparate (places_of (frames_of address change.send)) × (length change.send ≤ 16)
sends_apart plan b steps cause change address c =
    let of = subst (λ (x : Change). IsOf (GoesToBridge (port_at plan b)) x) (sym c) (plan_changes plan b steps cause) in
    let r = rising-separate 0 address change.send (bridge-places plan b change.send of.send) of.rises in
    (r.0, omega (arith, r.1))

-- a machine changes the states of ports to other bridges only
pub states_placed : (plan : Plan) (b : ℕ) (steps : List Step) (cause : Cause) (change : Change)
    → change ≡ (after (machine_of plan b steps) cause).change
    → AllByRecursion (λ (c : ℕ × PortState). IsBridgePort plan b c.0) change.states
states_placed plan b steps cause change c =
    subst (λ (x : Change). AllByRecursion (λ (s : ℕ × PortState). IsBridgePort plan b s.0) x.states) (sym c)
    (plan_changes plan b steps cause).states

in-places : (plan : Plan) (b : ℕ) (changes : List (ℕ × PortState))
    → AllByRecursion (λ (c : ℕ × PortState). IsBridgePort plan b c.0) changes
    → AllByRecursion (λ (c : ℕ × PortState). (1 ≤ c.0) × (c.0 ≤ 16)) changes
in-places plan b [] h = tt
in-places plan b (c ∷ cs) h = ((h.0.1, h.0.2), in-places plan b cs h.1)

pub states_within : (plan : Plan) (b : ℕ) (steps : List Step) (cause : Cause) (change : Change)
    → change ≡ (after (machine_of plan b steps) cause).change
    → AllByRecursion (λ (c : ℕ × PortState). (1 ≤ c.0) × (c.0 ≤ 16)) change.states
states_within plan b steps cause change c = in-places plan b change.states (states_placed plan b steps cause change c)
