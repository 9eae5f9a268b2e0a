-- The states of the ports at the end of a record are those of the bridges' machines.
use Rattle.std.proofs.Common.{◌≡◌, ℕ, ◌+◌, ◌≤◌, ◌<◌, List, [], ◌∷◌, refl, sym, ap, ap₂, ◌∙◌}
use Rattle.std.proofs.Common.{subst, map, length, arith, ◌==◌, Bool, true, false}
use Rattle.std.specs.Option.{option_map_or}
use Rattle.pb_lan.specs.Forests.{IsForest}
use Rattle.pb_lan.specs.BridgeLists.{IsLawfulBridge}
use Rattle.pb_lan.specs.Numbering.{numbers_from}
use Rattle.pb_lan.specs.Ports.{Port as LocalPort, port_at, local_ports}
use Rattle.pb_lan.specs.Ports.Port.{Provider}
use Rattle.pb_lan.specs.Records.{steps_of}
use Rattle.pb_lan.specs.Shapes.{changed, changes_of, start_by, state_by, states_after}
use Rattle.pb_lan.specs.declared.plan.Plan.{Plan}
use Rattle.pb_lan.specs.declared.plan.Spanning.TheVariants.{Rstp}
use Rattle.pb_lan.specs.declared.shape.PortState.TheVariants.{Discarding}
use Rattle.pb_lan.specs.declared.shape.Shape.{Shape}
use Rattle.pb_lan.specs.declared.step.Step.{Step}
use Rattle.pb_rstp.specs.Ports.{Machine, fresh}
use Rattle.pb_rstp.specs.Profile.{machine_of, rstp_ports, rules}
use Rattle.pb_rstp.specs.Tree.{state_at, states_of}
use Rattle.pb_rstp.specs.declared.config.RstpPort.{RstpPort}
use Rattle.pb_rstp.proofs.ForestLaws.{numbered-at}
use Rattle.pb_rstp.proofs.PlanLaws.{planned_are_machines}
use Rattle.pb_rstp.proofs.SettledForest.{settled_is_forest}
use Rattle.pb_spanning_tree.specs.Records.{ShapeIsLast, LastForest, last_machines}
use Rattle.pb_spanning_tree.proofs.RecordLawsCalls.{state_in, state_in-cons}
use Rattle.pb_spanning_tree.proofs.RecordLawsSteps.{steps_lead}

-- The states of one bridge's ports.

-- at the start every port is Discarding
starts-discarding : (k : ℕ) (ps : List RstpPort) → state_in (map fresh ps) k ≡ Discarding
starts-discarding k [] = refl
starts-discarding k (p ∷ ps) = by_test (p.port == k) refl (starts-discarding k ps)
  where
    by_test : (t : Bool) → (p.port == k) ≡ t → state_in (map fresh ps) k ≡ Discarding
        → state_in (map fresh (p ∷ ps)) k ≡ Discarding
    by_test true e rest = state_in-cons k (fresh p) (map fresh ps) true e
    by_test false e rest = state_in-cons k (fresh p) (map fresh ps) false e ∙ rest

-- after lawful steps the bridge has the state to which the reported changes lead
port-is : (plan : Plan) (bridge : ℕ) (steps : List Step) → plan.spanning ≡ Rstp → IsLawfulBridge rules plan bridge steps
    → (port : ℕ) (o : LocalPort)
    → state_at (machine_of plan bridge steps) o port ≡ state_by plan.spanning o port (changes_of steps)
port-is plan bridge steps spanning lawful port (Provider e) =
    steps_lead plan bridge spanning port [] steps lawful
    ∙ ap (λ s. changed port s (changes_of steps))
    (starts-discarding port (rstp_ports plan bridge) ∙ ap (λ s. start_by s e.start) (sym spanning))
port-is plan bridge steps spanning lawful port _ = refl

-- lists of the values of two functions at the same numbers are equal if the values are
map-equal : {Y : Type 0} (f g : ℕ → Y) → ((n : ℕ) → f n ≡ g n) → (ns : List ℕ) → map f ns ≡ map g ns
map-equal f g same [] = refl
map-equal f g same (n ∷ ns) = ap₂ (λ y ys. y ∷ ys) (same n) (map-equal f g same ns)

-- so have all its ports
bridge-is : (plan : Plan) (bridge : ℕ) (steps : List Step) → plan.spanning ≡ Rstp
    → IsLawfulBridge rules plan bridge steps
    → map (λ port. state_at (machine_of plan bridge steps) (port_at plan bridge port) port) local_ports
    ≡ states_after plan bridge steps
bridge-is plan bridge steps spanning lawful =
    map-equal (λ port. state_at (machine_of plan bridge steps) (port_at plan bridge port) port)
    (λ port. state_by plan.spanning (port_at plan bridge port) port (changes_of steps))
    (λ port. port-is plan bridge steps spanning lawful port (port_at plan bridge port)) local_ports

-- The states of all bridges' ports.

-- the numbers of the entries of a mapped list
numbers-map : {X Y : Type 0} (f : X → Y) (k : ℕ) (xs : List X) → numbers_from k (map f xs) ≡ numbers_from k xs
numbers-map f k [] = refl
numbers-map f k (x ∷ xs) = ap (λ ns. k ∷ ns) (numbers-map f (k + 1) xs)

-- the numbers of numbers
numbers-twice : {X : Type 0} (j k : ℕ) (xs : List X) → numbers_from j (numbers_from k xs) ≡ numbers_from j xs
numbers-twice j k [] = refl
numbers-twice j k (x ∷ xs) = ap (λ ns. j ∷ ns) (numbers-twice (j + 1) (k + 1) xs)

-- lists of the values of two functions at the numbers of a list are equal if the values there are
listed-equal : {X Y : Type 0} (f g : ℕ → Y) (k : ℕ) (xs : List X)
    → ((n : ℕ) → k ≤ n → n < k + length xs → f n ≡ g n) → map f (numbers_from k xs) ≡ map g (numbers_from k xs)
listed-equal f g k [] same = refl
listed-equal f g k (x ∷ xs) same =
    ap₂ (λ y ys. y ∷ ys) (same k (omega arith) (omega arith))
    (listed-equal f g (k + 1) xs (λ n least most. same n (omega (arith, least)) (omega (arith, most))))

-- at the end of a lawful record the bridges have the states that their steps report
pub shape_is_last : ShapeIsLast
shape_is_last plan rec spanning lawful =
    ap (λ rows. let shape : Shape = record { states = rows } in shape)
    (ap (map (states_of plan (last_machines plan rec))) numbers
    ∙ listed-equal (states_of plan (last_machines plan rec)) (λ b. states_after plan b (steps_of rec.bridges b)) 1
    plan.bridges bridge_is)
  where
    numbers : numbers_from 1 (last_machines plan rec) ≡ numbers_from 1 plan.bridges
    numbers = numbers-map (λ b. machine_of plan b (steps_of rec.bridges b)) 1 (numbers_from 1 plan.bridges)
        ∙ numbers-twice 1 1 plan.bridges

    bridge_is : (bridge : ℕ) → 1 ≤ bridge → bridge < 1 + length plan.bridges
        → states_of plan (last_machines plan rec) bridge ≡ states_after plan bridge (steps_of rec.bridges bridge)
    bridge_is bridge least most =
        ap (λ o. option_map_or
        (λ (m : Machine). map (λ port. state_at m (port_at plan bridge port) port) local_ports) o [])
        (numbered-at (λ b. machine_of plan b (steps_of rec.bridges b)) plan.bridges bridge least (omega (arith, most)))
        ∙ bridge-is plan bridge (steps_of rec.bridges bridge) spanning (lawful.bridges bridge)

-- if the bridges are settled there, the active links of each service form no loop
pub last_forest : LastForest
last_forest plan rec sound spanning lawful settled held vid =
    let are = planned_are_machines plan (steps_of rec.bridges) sound in
    let forest = (settled_is_forest plan (last_machines plan rec) sound are settled held).services vid in
    subst (λ (shape : Shape). IsForest plan shape vid) (shape_is_last plan rec spanning lawful) (forest.0, forest.1)
