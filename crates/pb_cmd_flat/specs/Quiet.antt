-- A single bridge, between two frames and while it handles one.
use Rattle.std.specs.Prelude.{◌≡◌, ℕ, ◌+◌, ◌*◌, ◌<◌, ◌≤◌, ◌==◌, true, false, List, [], ◌++◌, None, length}
use Rattle.std.specs.List.{AllByRecursion, list_any}
use Rattle.pb_frame.specs.Hex.{IsHex}
use Rattle.pb_lan.specs.Ports.{port_at, is_used}
use Rattle.pb_lan.specs.Queues.{waiting}
use Rattle.pb_lan.specs.declared.step.Item.{Item}
use Rattle.pb_lan.specs.declared.step.Outcome.{Outcome}
use Rattle.pb_lan.specs.declared.step.Outcome.TheVariants.{Relayed, Filtered, Heard}
use Rattle.pb_lan.specs.declared.step.Step.{Step}
use Rattle.pb_lan.specs.declared.step.Step.TheVariants.{Receive, Transmit}
use Rattle.pb_relay.specs.Standing.{BridgeView, HasReceived, with_step}
use Rattle.pb_cmd_flat.specs.FlatPlans.{flat_plan}
use Rattle.pb_cmd_flat.specs.Receipts.{receipts, IsClear}
use Rattle.pb_cmd_flat.specs.Texts.{answer_text}

-- the bridge is that of the plan with so many ports, and only counts its steps
pub record IsAlone (ports : ℕ) (bridge : BridgeView) : Type 0 where
  pub plan : bridge.plan ≡ flat_plan ports
  pub number : bridge.number ≡ 1
  pub counted : bridge.is_kept ≡ false

-- the number of items that wait at a port
abbrev pub waits : BridgeView → ℕ → ℕ
waits bridge port = length (waiting bridge.plan bridge.number port bridge.steps)

-- between two frames: nothing waits, no allocation failed, and there are at most 16 steps for each frame
pub record IsQuiet (ports : ℕ) (bridge : BridgeView) : Type 0 where
  pub alone : IsAlone ports bridge
  pub few : length bridge.steps ≤ 16 * length (receipts bridge.steps)
  pub clear : AllByRecursion IsClear bridge.steps
  pub calm : (port : ℕ) → 1 ≤ port → port ≤ ports → waits bridge port ≡ 0

-- the item of a frame that a customer sends
abbrev pub arriving : List ℕ → Item
arriving frame = record { mark = None; hops = 0; wire = frame }

-- the bridge has received the frame at the port
abbrev pub HasAdmitted : ℕ → List ℕ → BridgeView → BridgeView → Type 0
HasAdmitted port frame old new = (outcome : Outcome) × HasReceived old port (arriving frame) outcome new

-- the step received a frame, and these are its digits
abbrev pub IsToldBy : List ℕ → Step → Type 0
IsToldBy digits (Receive port item learnt outcome moved) = IsHex digits item.wire
IsToldBy digits _ = ⊥

-- the lines for the frame of the step were appended, and the step reports no failed allocation
abbrev pub Tells : Step → List ℕ → List ℕ → Type 0
Tells (Receive port item learnt outcome moved) out out' =
    (out' ≡ out ++ answer_text (record { port = port; wire = item.wire; outcome = outcome })) × IsClear (Receive port item learnt outcome moved)
Tells _ out out' = ⊥

-- the ports to which a frame was relayed
abbrev pub exits_by : Outcome → List ℕ
exits_by (Relayed chosen refused) = chosen
exits_by (Filtered reason) = []
exits_by Heard = []

-- the ports to which the step relayed a frame
abbrev pub exits_of : Step → List ℕ
exits_of (Receive port item learnt outcome moved) = exits_by outcome
exits_of _ = []

-- the bridge has these ports
abbrev pub AreUsed : BridgeView → List ℕ → Type 0
AreUsed bridge exits = AllByRecursion (λ port. is_used (port_at bridge.plan bridge.number port) ≡ true) exits

-- copies wait only at these ports, at most one at each, and the bridge can count the steps that send them
pub record IsWaiting (ports : ℕ) (exits : List ℕ) (bridge : BridgeView) : Type 0 where
  pub alone : IsAlone ports bridge
  pub near : (n : ℕ) → 1 ≤ n → n ≤ ports → waits bridge n ≤ 1
  pub only : (n : ℕ) → 1 ≤ n → n ≤ ports → list_any (λ exit. exit == n) exits ≡ false → waits bridge n ≡ 0
  pub few : length bridge.steps + length exits ≤ 16 * length (receipts bridge.steps)

-- the port sent the item that waited there, if one did
pub data HasDrained (port : ℕ) (old new : BridgeView) : Type 0 where
  nothing : waits old port ≡ 0 → new ≡ old → HasDrained port old new
  one : (item : Item) → 0 < waits old port → new ≡ with_step old (Transmit port item) → HasDrained port old new

-- all ports but these have sent the items that waited there
pub record IsDraining (ports : ℕ) (exits : List ℕ) (old new : BridgeView) : Type 0 where
  pub waiting : IsWaiting ports exits new
  pub same : receipts new.steps ≡ receipts old.steps
  pub clear : AllByRecursion IsClear old.steps → AllByRecursion IsClear new.steps
