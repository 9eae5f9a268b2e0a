-- The machines of a run's bridges.
use Rattle.std.proofs.Common.{◌≡◌, ◌↔◌, IsTrue, Bool, ℕ, suc, ◌+◌, ◌<◌, List, [], ◌∷◌, ◌++◌, Some, map, length}
use Rattle.std.proofs.Common.{get_or, slice_get, refl, sym, ap, ◌∙◌, subst, arith}
use Rattle.std.proofs.lemmas.List.{length-map, map-append}
use Rattle.pb_frame.proofs.Things.{here_is, part_at, each_more}
use Rattle.pb_lan.specs.Numbering.{numbers_from}
use Rattle.pb_lan.specs.Plans.{IsSound}
use Rattle.pb_lan.specs.Records.{steps_of}
use Rattle.pb_lan.specs.declared.plan.Plan.{Plan}
use Rattle.pb_lan.specs.declared.plan.Spanning.{Spanning}
use Rattle.pb_lan.specs.declared.plan.Spanning.TheVariants.{Rstp}
use Rattle.pb_lan.specs.declared.record.Record.{Record}
use Rattle.pb_lan.specs.declared.step.Step.{Step}
use Rattle.pb_relay.specs.Machines.{machine_in}
use Rattle.pb_relay.specs.Settled.{machines_in, TellsOf, TellsBy, TellsSettled}
use Rattle.pb_relay.proofs.CauseLemmas.{a_machine}
use Rattle.pb_relay.proofs.MachineLemmas.{are_machines}
use Rattle.pb_rstp.specs.Ports.{Machine}
use Rattle.pb_rstp.specs.Profile.{machine_of}
use Rattle.pb_rstp.specs.Tree.{IsSettled, NoneHeld, AreMachines, AreForests, PlannedAreMachines}
use Rattle.pb_run.specs.Gifts.{AreBridges}
use Rattle.pb_workers.specs.declared.gift.BridgeGift.{BridgeGift}
use Rattle.pb_run.proofs.Meeting.{steps_there}

-- the machine of the worker at an index of the list
pub machine_there : {X : Type 0} (gift : X → BridgeGift) (steps : X → List Step) (plan : Plan) (ws : List X) (r : ℕ)
    (w : X) → plan.spanning ≡ Rstp
    → AreBridges plan (length plan.bridges) (map gift ws) → r < length ws → w ≡ get_or ws r w
    → machine_in (gift w).plan (gift w).bridge (steps w) ≡ Some
    (machine_of plan (r + 1) (steps_of (map steps ws) (r + 1)))
machine_there gift steps plan ws r w rstp are within value =
    let at = here_is ws r w within value in
    let is = are.each r (gift w) (part_at gift ws r w at) in
    let next : r + 1 ≡ suc r = omega arith in
    ap (λ (p : Plan). machine_in p (gift w).bridge (steps w)) is.plans
    ∙ ap (λ n. machine_in plan n (steps w)) is.bridge
    ∙ ap (machine_in plan (r + 1)) (sym (steps_there steps ws r (r + 1) w at next))
    ∙ a_machine plan (r + 1) (steps_of (map steps ws) (r + 1)) rstp

-- the list of items that are known by number, extended by one
pub one_more_known : {X Y : Type 0} (see : X → Y) (f : ℕ → Y) (olds news : List X) (x : X) (r : ℕ) → length olds ≡ r
    → news ≡ olds ++ x ∷ []
    → ((q : ℕ) (y : Y) → slice_get (map see olds) q ≡ Some y → y ≡ f q) → see x ≡ f r → (q : ℕ) (y : Y)
    → slice_get (map see news) q ≡ Some y → y ≡ f q
one_more_known see f olds news x r counted grown each here q y at =
    let all : map see news ≡ map see olds ++ see x ∷ [] = ap (map see) grown ∙ map-append see olds (x ∷ []) in
    each_more (λ n z. z ≡ f n) (map see olds) (see x) each (here ∙ ap f (sym (length-map olds see ∙ counted))) q y
    (ap (λ zs. slice_get zs q) (sym all) ∙ at)

-- the item at each index is known by its number
by_numbers : {X Y : Type 0} (f : ℕ → Y) (k : ℕ) (xs : List X) (ys : List Y) → length ys ≡ length xs
    → ((r : ℕ) (y : Y) → slice_get ys r ≡ Some y → y ≡ f (k + r)) → ys ≡ map f (numbers_from k xs)
by_numbers f k [] [] counted each = refl
by_numbers f k [] (y ∷ ys) counted each = absurd (omega (arith, counted))
by_numbers f k (x ∷ xs) [] counted each = absurd (omega (arith, counted))
by_numbers f k (x ∷ xs) (y ∷ ys) counted each =
    let start : k + 0 ≡ k = omega arith in
    let first : y ≡ f k = each 0 y refl ∙ ap f start in
    let others = by_numbers f (k + 1) xs ys (omega (arith, counted))
    (λ r z at. let s : k + suc r ≡ k + 1 + r = omega arith in each (suc r) z at ∙ ap f s) in
    ap (λ z. z ∷ ys) first ∙ ap (λ zs. f k ∷ zs) others

-- machines that are as many as the bridges, each by its number, are those of the record
pub machines_all : {X : Type 0} (gift : X → BridgeGift) (steps : X → List Step) (plan : Plan) (rec : Record)
    (ws : List X) (machines : List Machine) → AreBridges plan (length plan.bridges) (map gift ws)
    → rec.bridges ≡ map steps ws → length machines ≡ length ws
    → ((r : ℕ) (m : Machine) → slice_get machines r ≡ Some m → m ≡ machine_of plan (r + 1)
    (steps_of (map steps ws) (r + 1)))
    → machines ≡ machines_in plan rec
unfolding machines_in
machines_all gift steps plan rec ws machines are lists counted each =
    let there = by_numbers (λ bridge. machine_of plan bridge (steps_of (map steps ws) bridge)) 1 plan.bridges machines
    (omega (arith, counted, are.counted, length-map ws gift))
    (λ r m at. let s : r + 1 ≡ 1 + r = omega arith in each r m at ∙ ap
    (λ n. machine_of plan n (steps_of (map steps ws) n)) s) in
    there ∙ ap (λ (zs : List (List Step)). map (λ bridge. machine_of plan bridge (steps_of zs bridge))
    (numbers_from 1 plan.bridges)) (sym lists)

-- the contract of `whether_settled`, from the machines of a record
pub tells : (plan : Plan) (rec : Record) (machines : List Machine) (answer : Bool) → plan.spanning ≡ Rstp
    → machines ≡ machines_in plan rec → IsSound plan → PlannedAreMachines
    → (IsTrue answer ↔ IsSettled plan machines)
    → (IsTrue answer → IsSound plan → AreMachines plan machines → NoneHeld machines → AreForests plan machines)
    → TellsSettled plan rec (Some answer)
tells plan rec machines answer rstp e sound planned settled forest =
    let all = subst (λ (ms : List Machine). TellsOf plan ms answer) e
    (record {
      settled = settled;
      forest = λ t none. forest t sound
          (subst (AreMachines plan) (sym e) (are_machines plan rec sound planned)) none;
    }) in
    subst (λ (z : Spanning). TellsBy z plan (machines_in plan rec) (Some answer)) (sym rstp) (answer, refl, all)
