-- What a call leaves as it is, and the changes that it returns.
use Rattle.std.specs.Prelude.{◌≡◌, ℕ, true, false, List, [], ◌∷◌, Some, None, map, ◌==◌, if◌then◌else◌}
use Rattle.std.specs.declared.option.Option.{Option}
use Rattle.std.specs.Option.{option_map}
use Rattle.pb_frame.specs.Lists.{first}
use Rattle.pb_lan.specs.Rules.{is_same}
use Rattle.pb_lan.specs.Shapes.{changed}
use Rattle.pb_lan.specs.declared.shape.PortState.{PortState}
use Rattle.pb_rstp.specs.Ports.{Machine, is_root, is_discarding, port_of}
use Rattle.pb_rstp.specs.Rising.{AreRising}
use Rattle.pb_rstp.specs.declared.change.Change.{Change}
use Rattle.pb_rstp.specs.declared.moving.Moving.{Moving}
use Rattle.pb_rstp.specs.declared.port.Port.{Port}

-- a port has the same number, path cost and priority as before
pub record IsSamePort (before after : Port) : Type 0 where
  pub number : after.number ≡ before.number
  pub cost : after.cost ≡ before.cost
  pub priority : after.priority ≡ before.priority

-- the ports are the same as before, in the same order
abbrev pub AreSamePorts : List Port → List Port → Type 0
AreSamePorts [] [] = Unit {0}
AreSamePorts [] (q ∷ qs) = ⊥
AreSamePorts (p ∷ ps) [] = ⊥
AreSamePorts (p ∷ ps) (q ∷ qs) = IsSamePort p q × AreSamePorts ps qs

-- a list of ports during a call: each as it was before the call, and as it is now
abbrev pub AreMoving : List Port → List Moving → Type 0
AreMoving [] [] = Unit {0}
AreMoving [] (m ∷ ms) = ⊥
AreMoving (p ∷ ps) [] = ⊥
AreMoving (p ∷ ps) (m ∷ ms) = ((m.was ≡ p) × IsSamePort p m.now) × AreMoving ps ms

-- a call leaves a bridge's identifier, whether it sends at once, and its ports' numbers, path costs and priorities
pub record IsSameBridge (before after : Machine) : Type 0 where
  pub id : after.id ≡ before.id
  pub prompt : after.prompt ≡ before.prompt
  pub ports : AreSamePorts before.ports after.ports

-- a port that was the Root port and is not any more is Discarding
abbrev pub HoldsOldRoots : Machine → Machine → Type 0
HoldsOldRoots before after =
    (number : ℕ) (was is : Port) → port_of before.ports number ≡ Some was → port_of after.ports number ≡ Some is
    → is_root was.role ≡ true → is_root is.role ≡ false → is_discarding is.state ≡ true

-- the state of the port with this number
abbrev pub state_of : List Port → ℕ → Option PortState
state_of ports number = option_map (λ p. p.state) (port_of ports number)

-- the state that a list of changes names for the port with this number
abbrev pub told_state : List (ℕ × PortState) → ℕ → Option PortState
told_state changes number = option_map (λ change. change.1) (first (λ change. change.0 == number) changes)

-- the state after a call, if it differs from the state before
abbrev pub new_state : Option PortState → Option PortState → Option PortState
new_state None after = None
new_state (Some before) None = None
new_state (Some before) (Some after) = if is_same before after then None else Some after

-- a call returns the new state of each port whose state differs, and of no other; each list names a port at most
-- once, by number
pub record NamesChanges (before after : Machine) (change : Change) : Type 0 where
  pub states : (number : ℕ) → told_state change.states number ≡ new_state (state_of before.ports number) (state_of after.ports number)
  pub states_rise : AreRising 0 (map (λ s. s.0) change.states)
  pub flush_rises : AreRising 0 change.flush
  pub send_rises : AreRising 0 (map (λ s. s.0) change.send)

-- applying the changes that a call returns leads from each port's state before to its state after
abbrev pub ChangesLeadOn : Type 0
ChangesLeadOn =
    (before after : Machine) (change : Change) → NamesChanges before after change → (number : ℕ) (was is : Port)
    → port_of before.ports number ≡ Some was → port_of after.ports number ≡ Some is → changed number was.state change.states ≡ is.state
