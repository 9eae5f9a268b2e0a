-- The states that the steps of a bridge report are those of its machine.
use Rattle.std.proofs.Common.{◌≡◌, ◌⊎◌, ℕ, List, [], ◌∷◌, ◌++◌, None, refl, sym, ap, ◌∙◌, Bool, map, inl, inr, arith}
use Rattle.std.proofs.Common.{append-nil, append_assoc, ◌==◌, if◌then◌else◌}
use Rattle.std.proofs.lemmas.Grind.{flat_map-append}
use Rattle.std.specs.declared.option.Option.{Option}
use Rattle.std.specs.List.{flat_map}
use Rattle.pb_frame.specs.declared.learnt.Learnt.{Learnt}
use Rattle.pb_lan.specs.BridgeLists.{Ruling, Names, Fits, Follows, IsRelayed, LawfulAfter, ruling}
use Rattle.pb_lan.specs.BridgeLists.Ruling.{Refuses, Listens, LearnsOnly, Carries, Closed}
use Rattle.pb_lan.specs.Ports.{port_at, local_ports}
use Rattle.pb_lan.specs.Rules.{Cause, change_by}
use Rattle.pb_lan.specs.Rules.Cause.{Hears, Ticks, Sets}
use Rattle.pb_lan.specs.Shapes.{changed, changes_of, moved_of, moved_part}
use Rattle.pb_lan.specs.declared.plan.Plan.{Plan}
use Rattle.pb_lan.specs.declared.plan.Spanning.TheVariants.{Rstp}
use Rattle.pb_lan.specs.declared.shape.PortState.{PortState}
use Rattle.pb_lan.specs.declared.step.Item.{Item}
use Rattle.pb_lan.specs.declared.step.Moved.{Moved}
use Rattle.pb_lan.specs.declared.step.Outcome.{Outcome}
use Rattle.pb_lan.specs.declared.step.Outcome.TheVariants.{Relayed}
use Rattle.pb_lan.specs.declared.step.Step.{Step}
use Rattle.pb_lan.specs.declared.step.Step.TheVariants.{Receive, Transmit, Tick, Admin}
use Rattle.pb_rstp.specs.Ports.{Machine}
use Rattle.pb_rstp.specs.Profile.{after, causes_of, heard_cause, machine_after, machine_at_start, machine_of, rules}
use Rattle.pb_rstp.specs.Rising.{AreRising}
use Rattle.pb_rstp.proofs.MovingLaws.{rising-same}
use Rattle.pb_rstp.proofs.PlanLaws.{same_after, rising-ports, local_rise}
use Rattle.pb_spanning_tree.proofs.RecordLawsCalls.{state_in, cause_leads}

-- The cause and the changes of one step.

abbrev states_in : Moved → List (ℕ × PortState)
states_in moved = moved.states

-- the changes of state that a step reports
abbrev reported_by : Step → List (ℕ × PortState)
reported_by step = flat_map states_in (moved_of step)

-- the step is no cause, and reports no change of state
record IsIdle (step : Step) : Type 0 where
  causes : causes_of step ≡ []
  states : reported_by step ≡ []

-- the step has this cause, and reports the changes of state that it makes
record Acts (plan : Plan) (bridge : ℕ) (earlier : List Step) (step : Step) (cause : Cause) : Type 0 where
  causes : causes_of step ≡ cause ∷ []
  states : reported_by step ≡ (after (machine_of plan bridge earlier) cause).change.states

-- each step does one of these
abbrev IsEither : Plan → ℕ → List Step → Step → Type 0
IsEither plan bridge earlier step = IsIdle step ⊎ ((cause : Cause) × Acts plan bridge earlier step cause)

-- what a step reports are the changes that its cause makes
reported-is : (plan : Plan) (bridge : ℕ) (earlier : List Step) (cause : Cause) (moved : Moved) → plan.spanning ≡ Rstp
    → Names rules plan bridge earlier cause moved
    → flat_map states_in (moved ∷ []) ≡ (after (machine_of plan bridge earlier) cause).change.states
reported-is plan bridge earlier cause moved spanning names =
    append-nil moved.states ∙ names.states
    ∙ ap (λ s. (change_by s rules plan bridge earlier cause).states) spanning

-- a frame that is not read as a BPDU is no cause
is_idle : (port : ℕ) (item : Item) (learnt : Option Learnt) (outcome : Outcome) (moved : Option Moved)
    → heard_cause port item outcome ≡ [] → moved ≡ None
    → IsIdle (Receive port item learnt outcome moved)
is_idle port item learnt outcome moved c m = record {
  causes = c;
  states = ap (λ o. flat_map states_in (moved_part o)) m;
}

-- a relayed frame is no cause
relayed-idle : (port : ℕ) (item : Item) (full : ℕ → Bool) (ports : List ℕ) (outcome : Outcome)
    → IsRelayed full ports outcome → heard_cause port item outcome ≡ []
relayed-idle port item full ports (Relayed chosen refused) h = refl
relayed-idle port item full ports _ h = absurd h

-- a received frame is a cause if the bridge reads it
received-either : (plan : Plan) (bridge : ℕ) (earlier : List Step) (port : ℕ) (item : Item) (learnt : Option Learnt)
    (outcome : Outcome) (moved : Option Moved) (r : Ruling) → plan.spanning ≡ Rstp
    → Follows rules plan bridge earlier port item learnt outcome moved r
    → IsEither plan bridge earlier (Receive port item learnt outcome moved)
received-either plan bridge earlier port item learnt outcome moved (Refuses reason) spanning f =
    inl (is_idle port item learnt outcome moved (ap (heard_cause port item) f.1) f.2)
received-either plan bridge earlier port item learnt outcome moved (LearnsOnly vid) spanning f =
    inl (is_idle port item learnt outcome moved (ap (heard_cause port item) f.1) f.2)
received-either plan bridge earlier port item learnt outcome moved Listens spanning (inl f) =
    inl (is_idle port item learnt outcome moved (ap (heard_cause port item) f.1) f.2)
received-either plan bridge earlier port item learnt outcome moved Listens spanning (inr f) =
    inr (
      Hears port item.wire,
      record {
        causes = ap (heard_cause port item) f.1;
        states = ap (λ o. flat_map states_in (moved_part o)) f.2.1
            ∙ reported-is plan bridge earlier (Hears port item.wire) f.2.0 spanning f.2.2;
      },
    )
received-either plan bridge earlier port item learnt outcome moved (Carries vid) spanning (inl f) =
    inl (is_idle port item learnt outcome moved (ap (heard_cause port item) f.1) f.2)
received-either plan bridge earlier port item learnt outcome moved (Carries vid) spanning (inr f) =
    inl (is_idle port item learnt outcome moved (relayed-idle port item _ _ outcome f.1) f.2)
received-either plan bridge earlier port item learnt outcome moved Closed spanning f = absurd f

-- each lawful step is no cause and reports no change, or reports the changes of its cause
either : (plan : Plan) (bridge : ℕ) (earlier : List Step) (step : Step) → plan.spanning ≡ Rstp
    → Fits rules plan bridge earlier step → IsEither plan bridge earlier step
either plan bridge earlier (Receive port item learnt outcome moved) spanning f =
    received-either plan bridge earlier port item learnt outcome moved (ruling rules plan bridge earlier port item)
    spanning f
either plan bridge earlier (Transmit port item) spanning f = inl (record { causes = refl; states = refl })
either plan bridge earlier (Tick now moved) spanning f =
    inr (Ticks, record { causes = refl; states = reported-is plan bridge earlier Ticks moved spanning f.1 })
either plan bridge earlier (Admin port up moved) spanning f =
    inr (
      Sets port up,
      record {
        causes = refl;
        states = reported-is plan bridge earlier (Sets port up) moved spanning f.1;
      },
    )
either plan bridge earlier _ spanning f = absurd f

-- The machine after one more step.

-- the causes of two lists, one after the other
machine_after-append : (machine : Machine) (xs ys : List Cause)
    → machine_after machine (xs ++ ys) ≡ machine_after (machine_after machine xs) ys
machine_after-append machine [] ys = refl
machine_after-append machine (x ∷ xs) ys = machine_after-append (after machine x).machine xs ys

-- the machine after one more step
machine-next : (plan : Plan) (bridge : ℕ) (earlier : List Step) (step : Step)
    → machine_of plan bridge (earlier ++ step ∷ []) ≡ machine_after (machine_of plan bridge earlier) (causes_of step)
machine-next plan bridge earlier step =
    ap (machine_after (machine_at_start plan bridge))
    (flat_map-append causes_of earlier (step ∷ []) ∙ ap (λ cs. flat_map causes_of earlier ++ cs)
    (append-nil (causes_of step)))
    ∙ machine_after-append (machine_at_start plan bridge) (flat_map causes_of earlier) (causes_of step)

-- the port numbers of a bridge of the plan rise, after any steps
numbers-rise : (plan : Plan) (bridge : ℕ) (steps : List Step)
    → AreRising 0 (map (λ p. p.number) (machine_of plan bridge steps).ports)
numbers-rise plan bridge steps =
    rising-same 0 0 refl (machine_at_start plan bridge).ports (machine_of plan bridge steps).ports
    (same_after (machine_at_start plan bridge) (flat_map causes_of steps))
    (rising-ports (λ port. port_at plan bridge port) 0 0 (omega arith) local_ports local_rise)

-- the changes that a step reports lead from the states before it to those after it
step-leads : (plan : Plan) (bridge : ℕ) (earlier : List Step) (step : Step) (k : ℕ)
    → IsEither plan bridge earlier step
    → state_in (machine_of plan bridge (earlier ++ step ∷ [])).ports k
    ≡ changed k (state_in (machine_of plan bridge earlier).ports k) (reported_by step)
step-leads plan bridge earlier step k (inl r) =
    let here = machine_of plan bridge earlier in
    ap (λ (m : Machine). state_in m.ports k)
    (machine-next plan bridge earlier step ∙ ap (machine_after here) r.causes)
    ∙ ap (changed k (state_in here.ports k)) (sym r.states)
step-leads plan bridge earlier step k (inr a) =
    let here = machine_of plan bridge earlier in
    ap (λ (m : Machine). state_in m.ports k)
    (machine-next plan bridge earlier step ∙ ap (machine_after here) a.1.causes)
    ∙ sym (cause_leads here (numbers-rise plan bridge earlier) k a.0)
    ∙ ap (changed k (state_in here.ports k)) (sym a.1.states)

-- All steps of a bridge.

-- changes after others
changed-after : (k : ℕ) (s : PortState) (front back : List (ℕ × PortState))
    → changed k s (front ++ back) ≡ changed k (changed k s front) back
changed-after k s [] back = refl
changed-after k s (c ∷ front) back = changed-after k (if c.0 == k then c.1 else s) front back

-- the changes of a step and of those after it
changes-cons : (step : Step) (steps : List Step) → changes_of (step ∷ steps) ≡ reported_by step ++ changes_of steps
changes-cons step steps = flat_map-append states_in (moved_of step) (flat_map moved_of steps)

-- the changes that lawful steps report lead to the states after them
pub steps_lead : (plan : Plan) (bridge : ℕ) → plan.spanning ≡ Rstp → (k : ℕ) (earlier steps : List Step)
    → LawfulAfter rules plan bridge earlier steps
    → state_in (machine_of plan bridge (earlier ++ steps)).ports k
    ≡ changed k (state_in (machine_of plan bridge earlier).ports k) (changes_of steps)
steps_lead plan bridge spanning k earlier [] lawful =
    ap (λ ss. state_in (machine_of plan bridge ss).ports k) (append-nil earlier)
steps_lead plan bridge spanning k earlier (step ∷ steps) lawful =
    let start = state_in (machine_of plan bridge earlier).ports k in
    ap (λ ss. state_in (machine_of plan bridge ss).ports k) (sym (append_assoc earlier (step ∷ []) steps))
    ∙ steps_lead plan bridge spanning k (earlier ++ step ∷ []) steps lawful.1
    ∙ ap (λ s. changed k s (changes_of steps))
    (step-leads plan bridge earlier step k (either plan bridge earlier step spanning lawful.0))
    ∙ sym (ap (changed k start) (changes-cons step steps) ∙ changed-after k start (reported_by step) (changes_of steps))
