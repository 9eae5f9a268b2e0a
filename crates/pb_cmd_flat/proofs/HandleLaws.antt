-- The bridge at its start, and after it has handled a frame (used by `Switch::new` and `Switch::handle`).
use Rattle.std.proofs.Common.{◌≡◌, ℕ, ◌+◌, ◌-◌, ◌≤◌, Bool, true, false, List, [], ◌∷◌, ◌++◌}
use Rattle.std.proofs.Common.{◌^◌, length, refl, sym, ap, subst, ◌∙◌, arith, length-append}
use Rattle.std.specs.List.{AllByRecursion}
use Rattle.pb_frame.proofs.Lists.{All-append}
use Rattle.pb_frame.specs.Hex.{IsHex}
use Rattle.pb_frame.proofs.Things.{flat_map-more}
use Rattle.pb_lan.specs.BridgeLists.{IsLawfulBridge, Fits}
use Rattle.pb_relay.specs.Protocol.{spanning_tree}
use Rattle.pb_lan.specs.declared.plan.Plan.{Plan}
use Rattle.pb_lan.specs.declared.step.Outcome.{Outcome}
use Rattle.pb_lan.specs.declared.step.Step.{Step}
use Rattle.pb_lan.specs.declared.step.Step.TheVariants.{Receive}
use Rattle.pb_relay.specs.Standing.{BridgeView, HasCounted, at_start, with_step}
use Rattle.pb_cmd_flat.specs.FlatPlans.{flat_plan}
use Rattle.pb_cmd_flat.specs.Quiet.{IsQuiet, IsWaiting, IsDraining, IsToldBy, HasAdmitted, AreUsed, Tells, arriving}
use Rattle.pb_cmd_flat.specs.Quiet.{exits_by, exits_of}
use Rattle.pb_cmd_flat.specs.Receipts.{Receipt, receipts, receipt_by, IsClear}
use Rattle.pb_cmd_flat.specs.Switches.{SwitchView, HasHandled}
use Rattle.pb_cmd_flat.proofs.AdmitLaws.{admitted_used, admitted_waiting}
use Rattle.pb_cmd_flat.proofs.DrainLaws.{quiet_again}

-- at its start the bridge is quiet
pub quiet_start : (ports : ℕ) → IsQuiet ports (at_start (flat_plan ports) 1 false)
quiet_start ports = record {
  alone = record { plan = refl; number = refl; counted = refl };
  few = omega arith;
  clear = tt;
  calm = λ n low high. refl;
}

-- the bridge has received the frame that a counted step reports, with the outcome of the step
abbrev pub admitted : (port : ℕ) (frame : List ℕ) (step : Step) (old new : BridgeView)
    → HasCounted old port (arriving frame) step new → HasAdmitted port frame old new
admitted port frame step old new (learnt, outcome, moved, is, appended, fits) = (
  outcome,
  (
    learnt,
    moved,
    appended ∙ ap (with_step old) is,
    subst
        (λ (s : Step). Fits spanning_tree old.plan old.number old.steps s) is fits,
  ),
)

pub step_is : (port : ℕ) (frame : List ℕ) (step : Step) (old new : BridgeView)
    → (h : HasCounted old port (arriving frame) step new)
    → step ≡ Receive port (arriving frame) (admitted port frame step old new h).1.0
    (admitted port frame step old new h).0 (admitted port frame step old new h).1.1
step_is port frame step old new (learnt, outcome, moved, is, appended, fits) = is

abbrev pub receipt_one : ℕ → List ℕ → Outcome → List Receipt
receipt_one port wire outcome = record { port = port; wire = wire; outcome = outcome } ∷ []

pub received_admitted : (port : ℕ) (frame digits : List ℕ) (step : Step) (old new : BridgeView) → IsHex digits frame
    → HasCounted old port (arriving frame) step new → IsToldBy digits step
received_admitted port frame digits step old new hex h = subst (IsToldBy digits)
    (sym (step_is port frame step old new h)) hex

-- the step relayed the frame to the ports of its outcome
pub exits_admitted : (port : ℕ) (frame : List ℕ) (step : Step) (old new : BridgeView)
    → (h : HasCounted old port (arriving frame) step new)
    → exits_of step ≡ exits_by (admitted port frame step old new h).0
exits_admitted port frame step old new h = ap exits_of (step_is port frame step old new h)

-- copies wait only at the ports of the step
waiting_exits : (ports port : ℕ) (frame exits : List ℕ) (step : Step) (old mid : BridgeView) → IsQuiet ports old
    → ports ≤ 16 → 1 ≤ port → port ≤ ports → (h : HasCounted old port (arriving frame) step mid)
    → exits ≡ exits_of step → IsWaiting ports exits mid
waiting_exits ports port frame exits step old mid quiet most from to h is =
    subst (λ (es : List ℕ). IsWaiting ports es mid) (sym (is ∙ exits_admitted port frame step old mid h))
    (admitted_waiting ports port frame old mid quiet most from to (admitted port frame step old mid h))

-- the ports of the step send what the bridge has received
pub drained_admitted : (ports port : ℕ) (frame exits : List ℕ) (step : Step) (old mid new : BridgeView)
    → IsQuiet ports old → ports ≤ 16 → 1 ≤ port → port ≤ ports → (h : HasCounted old port (arriving frame) step mid)
    → exits ≡ exits_of step → ((n : ℕ) → IsWaiting n exits mid → IsDraining n [] mid new) → IsDraining ports [] mid new
drained_admitted ports port frame exits step old mid new quiet most from to h is drain =
    drain ports (waiting_exits ports port frame exits step old mid quiet most from to h is)

-- the ports of the step are in use
pub used_admitted : (ports port : ℕ) (frame exits : List ℕ) (step : Step) (old mid : BridgeView) → IsQuiet ports old
    → (h : HasCounted old port (arriving frame) step mid) → exits ≡ exits_of step → AreUsed mid exits
used_admitted ports port frame exits step old mid quiet h is =
    subst (AreUsed mid) (sym (is ∙ exits_admitted port frame step old mid h))
    (admitted_used ports port frame old mid quiet (admitted port frame step old mid h))

-- one more frame was received
pub told_admitted : (port : ℕ) (frame : List ℕ) (old new : BridgeView) → (adm : HasAdmitted port frame old new)
    → receipts new.steps ≡ receipts old.steps ++ receipt_one port frame adm.0
told_admitted port frame old new (outcome, (learnt, moved, appended, fits)) =
    ap (λ (b : BridgeView). receipts b.steps) appended
    ∙ flat_map-more receipt_by old.steps (Receive port (arriving frame) learnt outcome moved)

-- so many frames were received before this one
pub steps_admitted : (ports port : ℕ) (frame exits : List ℕ) (step : Step) (old mid : BridgeView) → IsQuiet ports old
    → ports ≤ 16 → 1 ≤ port → port ≤ ports → (h : HasCounted old port (arriving frame) step mid)
    → exits ≡ exits_of step → ((n : ℕ) → IsWaiting n exits mid → 2 ^ 60 ≤ length (receipts mid.steps))
    → 2 ^ 60 - 1 ≤ length (receipts old.steps)
steps_admitted ports port frame exits step old mid quiet most from to h is many =
    let adm = admitted port frame step old mid h in
    let reached = many ports (waiting_exits ports port frame exits step old mid quiet most from to h is) in
    let told : length (receipts mid.steps) ≡ length (receipts old.steps) + 1 =
    ap length (told_admitted port frame old mid adm)
    ∙ length-append (receipts old.steps) (receipt_one port frame adm.0) in
    omega (arith, reached, told)

abbrev pub view_of : ℕ → BridgeView → Bool → SwitchView
view_of ports bridge is_ready = record { ports = ports; steps = bridge.steps; is_ready = is_ready }

-- the frame was handled, and the bridge is quiet again
pub handled : (ports port : ℕ) (frame out out' : List ℕ) (told_by : Step) (old mid new : BridgeView)
    (was_ready : Bool) → IsQuiet ports old
    → HasCounted old port (arriving frame) told_by mid → Tells told_by out out'
    → IsDraining ports [] mid new → IsLawfulBridge spanning_tree new.plan new.number new.steps
    → IsQuiet ports new × HasHandled (view_of ports old was_ready) port frame out (view_of ports new true) out'
handled ports port frame out out' told_by old mid new was_ready quiet counted tells drain lawful =
    let adm = admitted port frame told_by old mid counted in
    let step : Step = Receive port (arriving frame) adm.1.0 adm.0 adm.1.1 in
    let told = subst (λ (s : Step). Tells s out out') (step_is port frame told_by old mid counted) tells in
    let steps : mid.steps ≡ old.steps ++ step ∷ [] = ap (λ (b : BridgeView). b.steps) adm.1.2 in
    let clear : AllByRecursion IsClear mid.steps = subst (AllByRecursion IsClear) (sym steps)
    (All-append IsClear old.steps (step ∷ []) quiet.clear (told.1, tt)) in
    let again = quiet_again ports mid new drain clear in (
      again,
      record {
        ports = refl;
        ready = refl;
        outcome = adm.0;
        receipts = drain.same ∙ told_admitted port frame old mid adm;
        past = record {
          lawful = subst (λ k. IsLawfulBridge spanning_tree (flat_plan ports) k new.steps) again.alone.number
              (subst (λ (p : Plan). IsLawfulBridge spanning_tree p new.number new.steps) again.alone.plan lawful);
          clear = again.clear;
        };
        text = told.0;
      },
    )
