-- The workers of a plan, before a run and after it.
use Rattle.std.specs.Prelude.{◌≡◌, List, [], All, length, map}
use Rattle.pb_lan.specs.declared.plan.Plan.{Plan}
use Rattle.pb_ring.specs.declared.ends.Wiring.{Ghosts}
use Rattle.pb_run.specs.Gifts.{AreBridges, AreLanes, AreAccesses, given_bridge, given_lane, given_access}
use Rattle.pb_workers.specs.declared.access.Access.{Access}
use Rattle.pb_workers.specs.declared.access.Last.TheVariants.{More}
use Rattle.pb_workers.specs.declared.bridge.BridgeWorker.{BridgeWorker}
use Rattle.pb_run.specs.declared.build.Built.{Built}
use Rattle.pb_workers.specs.declared.lane.LaneWorker.{LaneWorker}

-- the workers are those of all places of the plan, no customer port has taken a step or reported its end, and no bridge
-- has taken a step
pub record IsBuilt {X P : Type 0} {W : Ghosts X} (plan : Plan) (built : Built X P W) : Type 0 where
  pub accesses : AreAccesses plan (length plan.customers) (map given_access built.accesses.items)
  pub fresh : All (λ d. (d.place.steps ≡ []) × (d.book.last ≡ More)) built.accesses.items
  pub lanes : AreLanes plan (length plan.links) (map given_lane built.lanes.items)
  pub bridges : AreBridges plan (length plan.bridges) (map given_bridge built.bridges.items)
  pub unset : All (λ b. b.bridge.steps ≡ []) built.bridges.items

-- the workers are those of all places of the plan, once they are back
pub record AreBack {X P : Type 0} {W : Ghosts X} (plan : Plan) (ds : List (Access X W)) (ls : List (LaneWorker X P W)) (bs : List (BridgeWorker X W)) : Type 0 where
  pub accesses : AreAccesses plan (length plan.customers) (map given_access ds)
  pub lanes : AreLanes plan (length plan.links) (map given_lane ls)
  pub bridges : AreBridges plan (length plan.bridges) (map given_bridge bs)

-- each worker has what it was given, and the steps of its place are unchanged
abbrev pub AreSameBridges : {X : Type 0} {W : Ghosts X} → List (BridgeWorker X W) → List (BridgeWorker X W) → Type 0
AreSameBridges old new =
    (map given_bridge new ≡ map given_bridge old) × (map (λ b. b.bridge.steps) new ≡ map (λ b. b.bridge.steps) old)

abbrev pub AreSameLanes : {X P : Type 0} {W : Ghosts X} → List (LaneWorker X P W) → List (LaneWorker X P W) → Type 0
AreSameLanes old new = (map given_lane new ≡ map given_lane old) × (map (λ l. l.lane.steps) new ≡ map (λ l. l.lane.steps) old)

abbrev pub AreSameAccesses : {X : Type 0} {W : Ghosts X} → List (Access X W) → List (Access X W) → Type 0
AreSameAccesses old new =
    (map given_access new ≡ map given_access old) × (map (λ d. d.place.steps) new ≡ map (λ d. d.place.steps) old)
