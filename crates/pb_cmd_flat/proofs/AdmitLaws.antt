-- The bridge receives a frame (used by `Switch::handle`).
use Rattle.std.proofs.Common.{◌≡◌, ℕ, ◌+◌, ◌≤◌, ◌==◌, ◌&&◌, inl, inr, Bool, true, false, not, cond, count_by}
use Rattle.std.proofs.Common.{if◌then◌else◌, List, []}
use Rattle.std.proofs.Common.{◌∷◌, ◌++◌, None, Some, length, refl, sym, ap, subst, ◌∙◌, arith, append-nil}
use Rattle.std.proofs.Common.{length-append}
use Rattle.std.specs.List.{list_any, filter, AllByRecursion}
use Rattle.std.proofs.lemmas.List.Filters.{length-filter_both}
use Rattle.std.proofs.lemmas.List.Sums.{length-filter}
use Rattle.std.specs.declared.option.Option.{Option}
use Rattle.std.proofs.lemmas.List.{length_push}
use Rattle.pb_frame.specs.declared.learnt.Learnt.{Learnt}
use Rattle.pb_frame.specs.Frames.{dst_of, is_group}
use Rattle.pb_frame.proofs.Lists.{All-imply, list_any-found, eqb-refl}
use Rattle.std.proofs.lemmas.Bool.{eqb-true}
use Rattle.pb_frame.proofs.Counting.{All-counted}
use Rattle.pb_lan.specs.BridgeLists.{Ruling, Fits, Follows, ruling, ruling_by, customer_reasons}
use Rattle.pb_lan.specs.BridgeLists.Ruling.{Refuses, Listens, LearnsOnly, Carries, Closed}
use Rattle.pb_lan.specs.Choice.{chosen_ports, flood, found, narrowed}
use Rattle.pb_lan.specs.Plans.{IsNumber}
use Rattle.pb_lan.specs.Ports.{Port, port_at, is_used, is_member, local_ports, vid_at}
use Rattle.pb_lan.specs.Ports.Port.{Customer as CustomerAt, Provider as ProviderAt, Unused as UnusedAt}
use Rattle.pb_lan.specs.Queues.{waiting, copies, is_refused}
use Rattle.pb_relay.specs.Protocol.{spanning_tree}
use Rattle.pb_lan.specs.Shapes.{state_after, is_forwarding}
use Rattle.pb_lan.specs.declared.plan.Plan.{Plan}
use Rattle.pb_lan.specs.declared.plan.CustomerPlan.{CustomerPlan}
use Rattle.pb_lan.specs.declared.shape.PortState.{PortState}
use Rattle.pb_lan.specs.declared.step.Item.{Item}
use Rattle.pb_lan.specs.declared.step.Moved.{Moved}
use Rattle.pb_lan.specs.declared.step.Outcome.{Outcome}
use Rattle.pb_lan.specs.declared.step.Outcome.TheVariants.{Relayed, Filtered, Heard}
use Rattle.pb_lan.specs.declared.step.Step.{Step}
use Rattle.pb_lan.specs.declared.step.Step.TheVariants.{Receive as Received}
use Rattle.pb_lan.proofs.Cases.{refusing-is}
use Rattle.pb_lan.proofs.Rulings.{IsChoice, chosen-choice, follows-relayed, local-listed}
use Rattle.pb_lan.proofs.SentWasQueued.{waiting_from-append}
use Rattle.pb_relay.specs.Standing.{BridgeView, with_step}
use Rattle.pb_cmd_flat.specs.FlatPlans.{flat_plan, flat_customer}
use Rattle.pb_cmd_flat.specs.Quiet.{IsAlone, IsQuiet, IsWaiting, HasAdmitted, AreUsed, arriving, exits_by, waits}
use Rattle.pb_cmd_flat.specs.Receipts.{receipts, receipt_by}
use Rattle.pb_cmd_flat.proofs.FlatPlanLaws.{flat_port-at}
use Rattle.pb_cmd_flat.proofs.StepLengths.{length-more}

-- the rulings that are possible at a customer port of this plan
abbrev IsPlainRuling : Ruling → Type 0
IsPlainRuling (Refuses reason) = Unit {0}
IsPlainRuling Listens = ⊥
IsPlainRuling (LearnsOnly vid) = ⊥
IsPlainRuling (Carries vid) = Unit {0}
IsPlainRuling Closed = ⊥

plain_ruling : (plan : Plan) (c : CustomerPlan) (state : PortState) (item : Item)
    → IsPlainRuling (ruling_by spanning_tree plan (CustomerAt c) state item)
plain_ruling plan c state item =
    refusing-is IsPlainRuling (customer_reasons item) (Carries (vid_at plan c)) (λ r. tt) tt

-- a Receive step at such a port reports no change of port states
unmoved : (plan : Plan) (earlier : List Step) (port : ℕ) (item : Item) (learnt : Option Learnt) (outcome : Outcome)
    (moved : Option Moved) (g : Ruling)
    → IsPlainRuling g → Follows spanning_tree plan 1 earlier port item learnt outcome moved g → moved ≡ None
unmoved plan earlier port item learnt outcome moved (Refuses reason) p h = h.2
unmoved plan earlier port item learnt outcome moved Listens p h = absurd p
unmoved plan earlier port item learnt outcome moved (LearnsOnly vid) p h = absurd p
unmoved plan earlier port item learnt outcome moved (Carries vid) p (inl h) = h.2
unmoved plan earlier port item learnt outcome moved (Carries vid) p (inr h) = h.2
unmoved plan earlier port item learnt outcome moved Closed p h = absurd p

pub customer_unmoved : (plan : Plan) (earlier : List Step) (port : ℕ) (c : CustomerPlan) (item : Item)
    (learnt : Option Learnt) (outcome : Outcome) (moved : Option Moved)
    → port_at plan 1 port ≡ CustomerAt c → Fits spanning_tree plan 1 earlier (Received port item learnt outcome moved)
    → moved ≡ None
customer_unmoved plan earlier port c item learnt outcome moved there fits =
    unmoved plan earlier port item learnt outcome moved (ruling spanning_tree plan 1 earlier port item)
    (subst (λ (p : Port). IsPlainRuling (ruling_by spanning_tree plan p (state_after plan 1 earlier port) item))
    (sym there) (plain_ruling plan c (state_after plan 1 earlier port) item)) fits

-- at most one copy is queued at a port
copies_few : (plan : Plan) (port : ℕ) (item : Item) (outcome : Outcome) (exit : ℕ)
    → length (copies plan 1 port item outcome exit) ≤ 1
copies_few plan port item (Relayed chosen refused) exit =
    few _ (list_any (λ p. p == exit) chosen && not (is_refused refused exit))
  where
    few : {X : Type 0} (x : X) (b : Bool) → length (if b then (x ∷ []) else []) ≤ 1
    few x true = omega arith
    few x false = omega arith
copies_few plan port item (Filtered reason) exit = omega arith
copies_few plan port item Heard exit = omega arith

-- a port outside the list of exits gets no copy
no_copy_elsewhere : (plan : Plan) (port : ℕ) (item : Item) (outcome : Outcome) (n : ℕ)
    → list_any (λ exit. exit == n) (exits_by outcome) ≡ false → length (copies plan 1 port item outcome n) ≡ 0
no_copy_elsewhere plan port item (Relayed chosen refused) n out =
    none _ (list_any (λ exit. exit == n) chosen) (not (is_refused refused n)) out
  where
    none : {X : Type 0} (x : X) (a b : Bool) → a ≡ false → length (if a && b then (x ∷ []) else []) ≡ 0
    none x true b e = cc
    none x false b e = refl
no_copy_elsewhere plan port item (Filtered reason) n out = refl
no_copy_elsewhere plan port item Heard n out = refl

-- a test that one element fails passes fewer than all
fewer : {X : Type 0} (p : X → Bool) (xs : List X) (q : X → Bool) → ((x : X) → q x ≡ not (p x)) → 1 ≤ count_by q xs
    → length (filter p xs) + 1 ≤ length xs
fewer p xs q other some = omega (arith, length-filter_both p q other xs, length-filter q xs, some)

-- a test passes no more than all
no_more : {X : Type 0} (p : X → Bool) (xs : List X) → length (filter p xs) ≤ length xs
no_more p xs = omega (arith, length-filter_both p (λ x. not (p x)) (λ x. refl) xs)

-- a local port that passes a test is counted
some_counted : (test : ℕ → Bool) (port : ℕ) → IsNumber port 16 → test port ≡ true → 1 ≤ count_by test local_ports
some_counted test port local passes =
    let found = list_any-found (λ p. (test : ℕ → Bool) → test p ≡ true → 1 ≤ count_by test local_ports) (λ p. p == port)
    local_ports (local-listed port local) (All-counted local_ports) in
    found.1 test (subst (λ p. test p ≡ true) (sym (eqb-true found.0 port found.2)) passes)

-- a frame is relayed to fewer ports than the bridge has
flood_few : (plan : Plan) (steps : List Step) (port vid : ℕ) → IsNumber port 16
    → length (flood plan 1 steps port vid) ≤ 15
flood_few plan steps port vid local =
    let test : ℕ → Bool = λ other. not (other == port) && (is_forwarding (state_after plan 1 steps other)
    && is_member plan vid (port_at plan 1 other)) in
    let fails : not (test port) ≡ true = ap (λ b. not (not b && (is_forwarding (state_after plan 1 steps port)
    && is_member plan vid (port_at plan 1 port)))) (eqb-refl port) in
    omega (
      arith,
      fewer test local_ports (λ p. not (test p)) (λ p. refl)
          (some_counted (λ p. not (test p)) port local fails),
    )

chosen_few : (plan : Plan) (steps : List Step) (port vid : ℕ) (wire : List ℕ) → IsNumber port 16
    → length (chosen_ports plan 1 steps port vid wire) ≤ 15
chosen_few plan steps port vid wire local =
    let ports = flood plan 1 steps port vid in
    let few = flood_few plan steps port vid local in
    elim (is_forwarding (state_after plan 1 steps port)) as
    (λ f. length (cond f (cond (is_group (dst_of wire)) ports
    (narrowed ports (found plan 1 steps vid (dst_of wire)))) []) ≤ 15) [
      | true ↦ elim (is_group (dst_of wire)) as
          (λ g. length (cond g ports (narrowed ports (found plan 1 steps vid (dst_of wire)))) ≤ 15)
          [ true ↦ few | false ↦ narrow_few ports (found plan 1 steps vid (dst_of wire)) few ]
      | false ↦ omega arith
    ]
  where
    narrow_few : (ports : List ℕ) (at : Option ℕ) → length ports ≤ 15 → length (narrowed ports at) ≤ 15
    narrow_few ports None few = few
    narrow_few ports (Some n) few = omega (arith, few, no_more (λ p. p == n) ports)

pub exits_few : (plan : Plan) (earlier : List Step) (port : ℕ) (item : Item) (learnt : Option Learnt)
    (outcome : Outcome) (moved : Option Moved) → IsNumber port 16
    → Fits spanning_tree plan 1 earlier (Received port item learnt outcome moved) → length (exits_by outcome) ≤ 15
exits_few plan earlier port item learnt (Relayed chosen refused) moved local fits =
    let f = follows-relayed spanning_tree plan 1 earlier port item learnt chosen refused moved
    (ruling spanning_tree plan 1 earlier port item) fits in
    subst (λ (ps : List ℕ). length ps ≤ 15) (sym f.2)
    (chosen_few plan (earlier ++ Received port item learnt (Relayed chosen refused) moved ∷ []) port f.0 item.wire
    local)
exits_few plan earlier port item learnt (Filtered reason) moved local fits = omega arith
exits_few plan earlier port item learnt Heard moved local fits = omega arith

-- the ports to which a frame is relayed are in use
member_used : (plan : Plan) (vid : ℕ) (port : Port) → is_member plan vid port ≡ true → is_used port ≡ true
member_used plan vid (CustomerAt c) e = refl
member_used plan vid (ProviderAt end) e = refl
member_used plan vid UnusedAt e = cc

exits_used : (plan : Plan) (earlier : List Step) (port : ℕ) (item : Item) (learnt : Option Learnt)
    (outcome : Outcome) (moved : Option Moved)
    → Fits spanning_tree plan 1 earlier (Received port item learnt outcome moved)
    → AllByRecursion (λ exit. is_used (port_at plan 1 exit) ≡ true) (exits_by outcome)
exits_used plan earlier port item learnt (Relayed chosen refused) moved fits =
    let f = follows-relayed spanning_tree plan 1 earlier port item learnt chosen refused moved
    (ruling spanning_tree plan 1 earlier port item) fits in
    let steps = earlier ++ Received port item learnt (Relayed chosen refused) moved ∷ [] in
    subst (AllByRecursion (λ exit. is_used (port_at plan 1 exit) ≡ true)) (sym f.2)
    (All-imply (IsChoice plan 1 steps port f.0) (λ exit. is_used (port_at plan 1 exit) ≡ true)
    (λ exit h. member_used plan f.0 (port_at plan 1 exit) h.member) (chosen_ports plan 1 steps port f.0 item.wire)
    (chosen-choice plan 1 steps port f.0 item.wire))
exits_used plan earlier port item learnt (Filtered reason) moved fits = tt
exits_used plan earlier port item learnt Heard moved fits = tt

-- after such a step, the items that waited and the copy wait
waiting_received : (plan : Plan) (steps : List Step) (port exit : ℕ) (item : Item) (learnt : Option Learnt)
    (outcome : Outcome)
    → length (waiting plan 1 exit (steps ++ Received port item learnt outcome None ∷ [])) ≡ length
    (waiting plan 1 exit steps) + length (copies plan 1 port item outcome exit)
waiting_received plan steps port exit item learnt outcome =
    ap length (waiting_from-append plan 1 exit [] steps (Received port item learnt outcome None))
    ∙ ap (λ ws. length (waiting plan 1 exit steps ++ ws)) (append-nil (copies plan 1 port item outcome exit))
    ∙ length-append (waiting plan 1 exit steps) (copies plan 1 port item outcome exit)

-- the items that wait at the bridge of this plan
pub waits-alone : (ports : ℕ) (bridge : BridgeView) → IsAlone ports bridge → (n : ℕ)
    → waits bridge n ≡ length (waiting (flat_plan ports) 1 n bridge.steps)
waits-alone ports bridge alone n =
    ap (λ (p : Plan). length (waiting p bridge.number n bridge.steps)) alone.plan
    ∙ ap (λ k. length (waiting (flat_plan ports) k n bridge.steps)) alone.number

-- the local ports of the bridge are in use
pub used-alone : (ports : ℕ) (bridge : BridgeView) → IsAlone ports bridge → (n : ℕ) → 1 ≤ n → n ≤ ports
    → is_used (port_at bridge.plan bridge.number n) ≡ true
used-alone ports bridge alone n low high =
    ap (λ (p : Plan). is_used (port_at p bridge.number n)) alone.plan
    ∙ ap (λ k. is_used (port_at (flat_plan ports) k n)) alone.number ∙ ap is_used (flat_port-at ports n low high)

-- the step fits the plan of the bridge
fits_alone : (ports : ℕ) (old : BridgeView) (step : Step) → IsAlone ports old
    → Fits spanning_tree old.plan old.number old.steps step → Fits spanning_tree (flat_plan ports) 1 old.steps step
fits_alone ports old step alone fits =
    subst (λ k. Fits spanning_tree (flat_plan ports) k old.steps step) alone.number
    (subst (λ (p : Plan). Fits spanning_tree p old.number old.steps step) alone.plan fits)

-- the plan and the number of the bridge stay
alone_after : (ports : ℕ) (old new : BridgeView) (step : Step) → new ≡ with_step old step → IsAlone ports old
    → IsAlone ports new
alone_after ports old new step appended alone = record {
  plan = ap (λ (b : BridgeView). b.plan) appended ∙ alone.plan;
  number = ap (λ (b : BridgeView). b.number) appended ∙ alone.number;
  counted = ap (λ (b : BridgeView). b.is_kept) appended ∙ alone.counted;
}

-- after a frame was received, the ports to which it is relayed are in use
pub admitted_used : (ports port : ℕ) (frame : List ℕ) (old new : BridgeView) → IsQuiet ports old
    → (adm : HasAdmitted port frame old new) → AreUsed new (exits_by adm.0)
admitted_used ports port frame old new quiet (outcome, (learnt, moved, appended, fits_there)) =
    let step : Step = Received port (arriving frame) learnt outcome moved in
    let alone = alone_after ports old new step appended quiet.alone in
    subst (λ k. AllByRecursion (λ exit. is_used (port_at new.plan k exit) ≡ true) (exits_by outcome)) (sym alone.number)
    (subst (λ (p : Plan). AllByRecursion (λ exit. is_used (port_at p 1 exit) ≡ true) (exits_by outcome))
    (sym alone.plan)
    (exits_used (flat_plan ports) old.steps port (arriving frame) learnt outcome moved
    (fits_alone ports old step quiet.alone fits_there)))

-- after a frame was received, at most one copy waits at each of these ports, and none elsewhere
pub admitted_waiting : (ports port : ℕ) (frame : List ℕ) (old new : BridgeView) → IsQuiet ports old → ports ≤ 16
    → 1 ≤ port → port ≤ ports → (adm : HasAdmitted port frame old new) → IsWaiting ports (exits_by adm.0) new
admitted_waiting ports port frame old new quiet most from to (outcome, (learnt, moved, appended, fits_there)) =
    let plan : Plan = flat_plan ports in
    let item : Item = arriving frame in
    let step : Step = Received port item learnt outcome moved in
    let steps : new.steps ≡ old.steps ++ step ∷ [] = ap (λ (b : BridgeView). b.steps) appended in
    let alone = alone_after ports old new step appended quiet.alone in
    let fits = fits_alone ports old step quiet.alone fits_there in
    let still = customer_unmoved plan old.steps port (flat_customer port) item learnt outcome moved
    (flat_port-at ports port from to) fits in
    let whole : new.steps ≡ old.steps ++ Received port item learnt outcome None ∷ [] = steps
    ∙ ap (λ m. old.steps ++ Received port item learnt outcome m ∷ []) still in
    let told : length (receipts new.steps) ≡ length (receipts old.steps) + 1 = ap (λ ms. length (receipts ms)) steps
    ∙ length-more receipt_by old.steps step in
    let more : (n : ℕ) → waits new n ≡ waits old n + length (copies plan 1 port item outcome n) =
    λ n. waits-alone ports new alone n ∙ ap (λ ms. length (waiting plan 1 n ms)) whole
    ∙ waiting_received plan old.steps port n item learnt outcome
    ∙ ap (λ k. k + length (copies plan 1 port item outcome n)) (sym (waits-alone ports old quiet.alone n)) in
    let few = exits_few plan old.steps port item learnt outcome moved (from, omega (arith, to, most)) fits in
    record {
      alone = alone;
      near = λ n low high. omega (arith, more n, quiet.calm n low high, copies_few plan port item outcome n);
      only = λ n low high out. omega (
        arith,
        more n,
        quiet.calm n low high,
        no_copy_elsewhere plan port item outcome n out,
      );
      few = omega (arith, ap length steps, length_push old.steps step, told, quiet.few, few);
    }
