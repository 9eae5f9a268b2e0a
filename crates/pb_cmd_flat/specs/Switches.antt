-- A single bridge, and how it handles a frame.
use Rattle.std.specs.Prelude.{◌≡◌, ℕ, Bool, true, List, [], ◌∷◌, ◌++◌}
use Rattle.std.specs.List.{AllByRecursion}
use Rattle.pb_lan.specs.BridgeLists.{IsLawfulBridge}
use Rattle.pb_relay.specs.Protocol.{spanning_tree}
use Rattle.pb_lan.specs.declared.step.Outcome.{Outcome}
use Rattle.pb_lan.specs.declared.step.Step.{Step}
use Rattle.pb_cmd_flat.specs.FlatPlans.{flat_plan}
use Rattle.pb_cmd_flat.specs.Receipts.{receipts, IsClear}
use Rattle.pb_cmd_flat.specs.Texts.{answer_text}

-- a bridge with so many ports, the steps that it took, and whether it is ready for a frame
pub record SwitchView : Type 0 where
  pub ports : ℕ
  pub steps : List Step
  pub is_ready : Bool

-- the bridge has so many ports, and is ready for a frame
abbrev pub IsReadyAt : ℕ → SwitchView → Type 0
IsReadyAt ports switch = (switch.is_ready ≡ true) × (switch.ports ≡ ports)

-- the steps are a lawful past of the bridge: it received and sent frames and did nothing else, and no allocation failed
pub record IsFlatPast (ports : ℕ) (steps : List Step) : Type 0 where
  pub lawful : IsLawfulBridge spanning_tree (flat_plan ports) 1 steps
  pub clear : AllByRecursion IsClear steps

-- the bridge has received the frame at the port, and the lines for it were appended
pub record HasHandled (old : SwitchView) (port : ℕ) (frame : List ℕ) (out : List ℕ) (new : SwitchView) (out' : List ℕ) : Type 0 where
  pub ports : new.ports ≡ old.ports
  pub ready : new.is_ready ≡ true
  pub outcome : Outcome
  pub receipts : receipts new.steps ≡ receipts old.steps ++ record { port = port; wire = frame; outcome = outcome } ∷ []
  pub past : IsFlatPast new.ports new.steps
  pub text : out' ≡ out ++ answer_text (record { port = port; wire = frame; outcome = outcome })
