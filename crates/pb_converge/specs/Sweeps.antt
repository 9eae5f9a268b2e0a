-- The events that a sweep over the places of a network has tried.
use Rattle.std.specs.Prelude.{◌≡◌, ◌*◌, ◌⊎◌, ℕ, length}
use Rattle.pb_lan.specs.Plans.{IsNumber}
use Rattle.pb_lan.specs.declared.event.Event.{Event}
use Rattle.pb_lan.specs.declared.event.Event.TheVariants.{Feed, Deliver, Receive, Transmit, Take, Put}
use Rattle.pb_lan.specs.declared.plan.Plan.{Plan}
use Rattle.pb_net.specs.Answers.{NetView}
use Rattle.pb_converge.specs.Drives.{is_onward, HaveGone, IsNotDue}

-- this many events were performed, and if none was, none of those that were tried is due
pub record HaveTried (tried : Event → Type 0) (count : ℕ) (old new : NetView) : Type 0 where
  pub gone : HaveGone is_onward count old new
  pub none_due : count ≡ 0 → (event : Event) → tried event → IsNotDue new event

-- the event is this one
abbrev pub IsThis : Event → Event → Type 0
IsThis this event = event ≡ this

-- the event is one of a customer port, of a bridge's port, of a lane
abbrev pub IsAtCustomer : ℕ → Event → Type 0
IsAtCustomer port event = (event ≡ Deliver port) ⊎ (event ≡ Feed port)

abbrev pub IsAtPort : ℕ → ℕ → Event → Type 0
IsAtPort bridge port event = (event ≡ Receive bridge port) ⊎ (event ≡ Transmit bridge port)

abbrev pub IsAtLane : ℕ → Event → Type 0
IsAtLane lane event = (event ≡ Take lane) ⊎ (event ≡ Put lane)

-- the event is one of an item with a number from 1 to `highest`
abbrev pub IsAtOneOf : (ℕ → Event → Type 0) → ℕ → Event → Type 0
IsAtOneOf at highest event = (n : ℕ) × IsNumber n highest × at n event

abbrev pub IsAtCustomers : Plan → Event → Type 0
IsAtCustomers plan event = IsAtOneOf IsAtCustomer (length plan.customers) event

abbrev pub IsAtPorts : ℕ → Event → Type 0
IsAtPorts bridge event = IsAtOneOf (IsAtPort bridge) 16 event

abbrev pub IsAtBridges : Plan → Event → Type 0
IsAtBridges plan event = IsAtOneOf IsAtPorts (length plan.bridges) event

abbrev pub IsAtLanes : Plan → Event → Type 0
IsAtLanes plan event = IsAtOneOf IsAtLane (2 * length plan.links) event

abbrev pub IsAnywhere : Plan → Event → Type 0
IsAnywhere plan event = IsAtCustomers plan event ⊎ (IsAtBridges plan event ⊎ IsAtLanes plan event)
