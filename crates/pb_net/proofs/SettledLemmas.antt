-- The machines of a network's bridges.
use Rattle.std.proofs.Common.{◌↔◌, IsTrue, Bool, ◌≡◌, ℕ, zero, suc, ◌+◌, ◌<◌, List, [], ◌∷◌, ◌++◌, Some, map, length}
use Rattle.std.proofs.Common.{take, get_or, refl, sym, ap, ◌∙◌, subst, arith}
use Rattle.std.proofs.lemmas.List.{take_more, take_all, get_or-map, length-map}
use Rattle.pb_frame.proofs.Things.{here_is}
use Rattle.pb_lan.specs.Numbering.{numbers_from}
use Rattle.pb_lan.specs.Records.{steps_of}
use Rattle.pb_lan.specs.declared.plan.Plan.{Plan}
use Rattle.pb_lan.specs.declared.plan.Spanning.TheVariants.{Rstp}
use Rattle.pb_relay.specs.Machines.{machine_in}
use Rattle.pb_relay.specs.Standing.{BridgeView}
use Rattle.pb_relay.proofs.CauseLemmas.{a_machine}
use Rattle.pb_rstp.specs.Ports.{Machine}
use Rattle.pb_rstp.specs.Profile.{machine_of}
use Rattle.pb_lan.specs.Plans.{IsSound}
use Rattle.pb_lan.specs.declared.record.Record.{Record}
use Rattle.pb_rstp.specs.Tree.{IsSettled, IsConverged, NoneHeld, AreMachines, AreForests, PlannedAreMachines}
use Rattle.pb_relay.specs.Settled.{machines_in, TellsOf, TellsConvergedOf}
use Rattle.pb_relay.proofs.MachineLemmas.{are_machines}
use Rattle.pb_net.specs.declared.net.Net.TheInside.{Inside}
use Rattle.pb_net.specs.Answers.{NetView}
use Rattle.pb_net.proofs.KnownSpots.{Keeps, rec_in, shown}
use Rattle.pb_net.proofs.OneMore.{steps_of-map}

length-numbers : {X : Type 0} (k : ℕ) (xs : List X) → length (numbers_from k xs) ≡ length xs
length-numbers k [] = refl
length-numbers k (x ∷ xs) = ap suc (length-numbers (k + 1) xs)

numbers-at : {X : Type 0} (k i : ℕ) (xs : List X) → i < length xs → get_or (numbers_from k xs) i 0 ≡ k + i
numbers-at k i [] l = absurd (omega arith)
numbers-at k zero (x ∷ xs) l = omega arith
numbers-at k (suc i) (x ∷ xs) l = let s : k + 1 + i ≡ k + suc i = omega arith in numbers-at (k + 1) i xs (omega arith)
    ∙ s

-- the machine of the bridge with a number, if it has one
pub machine_at : (s : Inside) (r n : ℕ) (b : BridgeView) → Keeps s → r + 1 ≡ n → r < length s.bridges.items
    → b ≡ get_or s.bridges.items r b
    → machine_in b.plan b.number b.steps ≡ machine_in s.plan n (steps_of (rec_in s).bridges n)
machine_at s r n b keeps number within value =
    let here = here_is s.bridges.items r b within value in
    let one : suc r ≡ n = omega (arith, number) in
    ap (λ (p : Plan). machine_in p b.number b.steps) (keeps.1.planned r b here)
    ∙ ap (λ k. machine_in s.plan k b.steps) (keeps.1.bridge_numbers r b here ∙ number)
    ∙ ap (machine_in s.plan n) (sym (steps_of-map (λ (x : BridgeView). x.steps) s.bridges.items r b here)
    ∙ ap (steps_of (rec_in s).bridges) one)

-- the machine of the bridge at an index of the list that is iterated
pub machine_there : {net : NetView} (s : Inside) (walked : List BridgeView) (r : ℕ) (b : BridgeView) → Keeps s
    → shown s ≡ net → net.plan.spanning ≡ Rstp → walked ≡ s.bridges.items → r < length walked
    → b ≡ get_or walked r b → (r < length s.bridges.items)
    × (machine_in b.plan b.number b.steps ≡ Some (machine_of s.plan (r + 1) (steps_of (rec_in s).bridges (r + 1))))
machine_there s walked r b keeps view rstp e within value =
    let here : r < length s.bridges.items = subst (λ (xs : List BridgeView). r < length xs) e within in
    let found = subst (λ (xs : List BridgeView). b ≡ get_or xs r b) e value in
    let planned = subst (λ (v : NetView). v.plan.spanning ≡ Rstp) (sym view) rstp in (
      here,
      machine_at s r (r + 1) b keeps refl here found
          ∙ a_machine s.plan (r + 1) (steps_of (rec_in s).bridges (r + 1)) planned,
    )

-- the list of machines extended by one
pub machines_more : (s : Inside) (r : ℕ) (before : List Machine) (m : Machine) → Keeps s → r < length s.bridges.items
    → Some m ≡ Some (machine_of s.plan (r + 1) (steps_of (rec_in s).bridges (r + 1)))
    → before ≡ take r (machines_in s.plan (rec_in s))
    → before ++ m ∷ [] ≡ take (r + 1) (machines_in s.plan (rec_in s))
unfolding machines_in
machines_more s r before m keeps within there kept =
    let f : ℕ → Machine = (λ bridge. machine_of s.plan bridge (steps_of (rec_in s).bridges bridge)) in
    let numbers = numbers_from 1 s.plan.bridges in
    let few : r < length s.plan.bridges = omega (arith, keeps.1.bridge_count) in
    let n = length-numbers 1 s.plan.bridges in
    let k = length-map numbers f in
    let one : 1 + r ≡ r + 1 = omega arith in
    let same : m ≡ f (r + 1) = cc in
    let at : get_or (map f numbers) r m ≡ f (r + 1) = get_or-map f numbers r 0 m (omega arith)
    ∙ ap f (numbers-at 1 r s.plan.bridges few ∙ one) in
    ap (λ zs. zs ++ m ∷ []) kept ∙ ap (λ z. take r (map f numbers) ++ z ∷ []) (same ∙ sym at)
    ∙ sym (take_more (map f numbers) r m (omega arith))

-- the list of all machines
pub machines_all : (s : Inside) → Keeps s
    → take (length s.bridges.items) (machines_in s.plan (rec_in s)) ≡ machines_in s.plan (rec_in s)
unfolding machines_in
machines_all s keeps =
    let f : ℕ → Machine = (λ bridge. machine_of s.plan bridge (steps_of (rec_in s).bridges bridge)) in
    let n = length-numbers 1 s.plan.bridges in
    let k = length-map (numbers_from 1 s.plan.bridges) f in
    take_all (length s.bridges.items) (map f (numbers_from 1 s.plan.bridges)) (omega (arith, keeps.1.bridge_count))

-- the contract of `settled`, from the machines of the network's bridges
pub tells : (plan : Plan) (rec : Record) (machines : List Machine) (answer : Bool) → machines ≡ machines_in plan rec
    → IsSound plan → PlannedAreMachines
    → (IsTrue answer ↔ IsSettled plan machines)
    → (IsTrue answer → IsSound plan → AreMachines plan machines → NoneHeld machines → AreForests plan machines)
    → TellsOf plan (machines_in plan rec) answer
tells plan rec machines answer e sound planned settled forest =
    subst (λ (ms : List Machine). TellsOf plan ms answer) e
    (record {
      settled = settled;
      forest = λ t none. forest t sound
          (subst (AreMachines plan) (sym e) (are_machines plan rec sound planned)) none;
    })

-- the contract of `converged`, from the machines of the network's bridges
pub tells_converged : (plan : Plan) (rec : Record) (machines : List Machine) (answer : Bool)
    → machines ≡ machines_in plan rec
    → IsSound plan → PlannedAreMachines
    → (IsTrue answer ↔ IsConverged plan machines)
    → (IsTrue answer → IsSound plan → AreMachines plan machines → NoneHeld machines → AreForests plan machines)
    → TellsConvergedOf plan (machines_in plan rec) answer
tells_converged plan rec machines answer e sound planned converged forest =
    subst (λ (ms : List Machine). TellsConvergedOf plan ms answer) e
    (record {
      converged = converged;
      forest = λ t none. forest t sound
          (subst (AreMachines plan) (sym e) (are_machines plan rec sound planned)) none;
    })
