-- The outcomes of a network's events.
use Rattle.std.specs.Prelude.{◌≡◌, ℕ, Bool, true, false, List, [], ◌∷◌, Some, Ok, Err, take, slice_get}
use Rattle.std.specs.declared.result.Result.{Result}
use Rattle.pb_lan.specs.Events.{place_of, names_something, is_idle, is_at_limit, HasDone}
use Rattle.pb_lan.specs.declared.event.Event.{Event}
use Rattle.pb_lan.specs.declared.plan.Plan.{Plan}
use Rattle.pb_lan.specs.declared.record.Record.{Record}
use Rattle.pb_net.specs.declared.did.Did.{Did}
use Rattle.pb_net.specs.declared.did.Did.TheVariants.{Idle, Done}
use Rattle.pb_net.specs.declared.fault.NetFault.{NetFault}
use Rattle.pb_net.specs.declared.fault.NetFault.TheVariants.{StepLimit, Memory, NoSuch}

-- what callers see of a network: its plan, the record of its steps, and whether it keeps the steps or only counts them
pub record NetView : Type 0 where
  pub plan : Plan
  pub rec : Record
  pub is_kept : Bool

-- the event names a place, there is something to do, and the place's list may take one more step
pub record IsDue (net : NetView) (event : Event) : Type 0 where
  pub named : names_something net.plan event ≡ true
  pub busy : is_idle net.plan net.rec event ≡ false
  pub within : is_at_limit net.plan net.rec event ≡ false

-- the outcome is the first that holds: no such place, nothing to do, step limit, out of memory; otherwise the event's
-- place took one step of the event's kind
abbrev pub IsAnswer : NetView → Event → Result Did NetFault → NetView → Type 0
IsAnswer old event (Err NoSuch) new = (names_something old.plan event ≡ false) × (new ≡ old)
IsAnswer old event (Ok Idle) new = (names_something old.plan event ≡ true) × (is_idle old.plan old.rec event ≡ true) × (new ≡ old)
IsAnswer old event (Err StepLimit) new =
    (names_something old.plan event ≡ true) × (is_idle old.plan old.rec event ≡ false) × (is_at_limit old.plan old.rec event ≡ true) × (new ≡ old)
IsAnswer old event (Err Memory) new = IsDue old event × (new ≡ old)
IsAnswer old event (Ok (Done place)) new =
    IsDue old event × (place ≡ place_of event) × (new.plan ≡ old.plan) × HasDone old.rec event new.rec × (new.is_kept ≡ old.is_kept)

-- the events were performed one after the other, none with a fault
abbrev pub HaveRun : NetView → List Event → NetView → Type 0
HaveRun old [] new = new ≡ old
HaveRun old (event ∷ events) new =
    (between : NetView) × (did : Did) × IsAnswer old event (Ok did) between × HaveRun between events new

-- the events before this index were performed, and the event at it met the fault
pub record HasStopped (old : NetView) (events : List Event) (count : ℕ) (fault : NetFault) (new : NetView) : Type 0 where
  pub event : Event
  pub next : slice_get events count ≡ Some event
  pub before : HaveRun old (take count events) new
  pub met : IsAnswer new event (Err fault) new
