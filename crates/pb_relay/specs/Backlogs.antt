-- The queues at the local ports of a bridge.
use Rattle.std.specs.Prelude.{◌≡◌, ℕ, Bool, true, false, List, [], None, Some, Ok, Err, ◌==◌, ◌&&◌, not, nat_le, length, replicate, slice_get, slice_index_or, slice_set}
use Rattle.std.specs.declared.option.Option.{Option}
use Rattle.std.specs.declared.result.Result.{Result}
use Rattle.pb_lan.specs.declared.step.Item.{Item}
use Rattle.pb_lan.specs.declared.step.NoRoom.{NoRoom}
use Rattle.pb_lan.specs.declared.step.NoRoom.TheVariants.{Full, Memory}
use Rattle.pb_lan.specs.Queues.{capacity_of}
use Rattle.pb_lan.specs.declared.plan.Plan.{Plan}
use Rattle.pb_lan.specs.declared.plan.Queues.{Queues}
use Rattle.pb_lan.specs.declared.plan.Queues.TheVariants.{PerPort, PerClass}
use Rattle.pb_relay.specs.Classes.{no_items, number_in}
use Rattle.pb_relay.specs.declared.backlog.Capacity.{Capacity}

-- what callers see of the queues: the items at each port by class, how many of them may wait, and whether each is queued
-- twice, as it is if the bridge keeps its steps
pub record BacklogView : Type 0 where
  pub ports : List (List (List Item))
  pub capacity : Capacity
  pub is_kept : Bool

-- the queues with nothing in them
abbrev pub empty_backlog : Capacity → Bool → BacklogView
empty_backlog capacity is_kept = record { ports = replicate 16 no_items; capacity = capacity; is_kept = is_kept }

-- the items that wait at the port of this index, by class
abbrev pub at_place : BacklogView → ℕ → List (List Item)
at_place backlog place = slice_index_or backlog.ports place []

-- the queues with these items at one port
abbrev pub with_port : BacklogView → ℕ → List (List Item) → BacklogView
with_port backlog place qs = record backlog { ports = slice_set backlog.ports place qs }

-- how many items may wait at a port of the bridge
abbrev pub capacity_in : Plan → ℕ → Capacity
capacity_in plan number = record { queues = plan.queues; most = capacity_of plan number }

-- these items leave no place for one more of this class
abbrev pub is_full_with : Queues → ℕ → ℕ → List (List Item) → Bool
is_full_with PerPort most class qs = nat_le most (number_in qs)
is_full_with PerClass most class qs = not (class == 8) && nat_le most (length (slice_index_or qs class []))

abbrev pub is_full_in : Capacity → ℕ → List (List Item) → Bool
is_full_in capacity class qs = is_full_with capacity.queues capacity.most class qs

-- the queue of a port is full for items of this class
abbrev pub is_full_at : BacklogView → ℕ → ℕ → Bool
is_full_at backlog place class = is_full_in backlog.capacity class (at_place backlog place)

-- the bridge's own BPDU that waits in the place of its own, if there is such a place
abbrev pub older_in : Queues → List (List Item) → Option Item
older_in PerPort qs = None
older_in PerClass qs = slice_get (slice_index_or qs 8 []) 0

-- an item was queued at a port, where these items wait then, or was refused because the queue was full or an allocation
-- failed
abbrev pub HasEnqueued : BacklogView → ℕ → Bool → List (List Item) → Option NoRoom → BacklogView → Type 0
HasEnqueued old place full qs None new = (full ≡ false) × (new ≡ with_port old place qs)
HasEnqueued old place full qs (Some Full) new = (full ≡ true) × (new ≡ old)
HasEnqueued old place full qs (Some Memory) new = (full ≡ false) × (new ≡ old)

-- Memory as the cause if an item was not queued because an allocation failed
abbrev pub word_for : {X Y : Type 0} → Result X Y → Option NoRoom
word_for (Ok x) = None
word_for (Err y) = Some Memory

-- only the waiting items have changed
pub record KeepsBacklog (old new : BacklogView) : Type 0 where
  pub capacity : new.capacity ≡ old.capacity
  pub is_kept : new.is_kept ≡ old.is_kept
