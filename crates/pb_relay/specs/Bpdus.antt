-- A bridge's own BPDUs, and how they are queued.
use Rattle.std.specs.Prelude.{◌≡◌, ℕ, List, [], ◌∷◌, None, Some, Ok, Err, map}
use Rattle.std.specs.declared.option.Option.{Option}
use Rattle.std.specs.declared.result.Result.{Result}
use Rattle.pb_bpdu.specs.Layout.{written}
use Rattle.pb_bpdu.specs.declared.bpdu.Bpdu.{Bpdu}
use Rattle.pb_lan.specs.declared.step.Item.{Item}
use Rattle.pb_lan.specs.declared.step.NoRoom.{NoRoom}
use Rattle.std.specs.Option.{option_to_list}
use Rattle.pb_lan.specs.Queues.{own_class}
use Rattle.pb_relay.specs.Classes.{placed}
use Rattle.pb_relay.specs.Copies.{item_with}
use Rattle.pb_relay.specs.Backlogs.{BacklogView, HasEnqueued, at_place, is_full_at, older_in}
use Rattle.pb_relay.specs.declared.bpdus.Queued.{Queued}

-- the frames of these BPDUs, from a bridge of this address
abbrev pub frames_of : List ℕ → List (ℕ × Bpdu) → List (ℕ × List ℕ)
frames_of address sends = map (λ s. (s.0, written address s.1)) sends

-- the cause for which a BPDU was dropped, if it was
abbrev pub word_of : {X : Type 0} → Result X NoRoom → Option NoRoom
word_of (Ok x) = None
word_of (Err word) = Some word

-- a BPDU was queued at a port, or was refused because the queue was full or an allocation failed
abbrev pub HasQueued : BacklogView → ℕ → List ℕ → Option NoRoom → BacklogView → Type 0
HasQueued old place wire word new =
    HasEnqueued old place (is_full_at old place (own_class old.capacity.queues))
    (placed (own_class old.capacity.queues) (item_with None 0 wire) (at_place old place)) word new

-- a BPDU was queued at a port and is reported with the one that it replaced, or was refused
abbrev pub HasSent : BacklogView → ℕ → List ℕ → Result Queued NoRoom → BacklogView → Type 0
HasSent old place wire (Ok queued) new =
    (queued.item ≡ item_with None 0 wire) × (queued.older ≡ older_in old.capacity.queues (at_place old place))
    × HasQueued old place wire None new
HasSent old place wire (Err word) new = HasQueued old place wire (Some word) new

-- the report of a port at which a BPDU was queued
abbrev pub told_queued : ℕ → Result Queued NoRoom → List (ℕ × Item)
told_queued port (Ok queued) = (port, queued.item) ∷ []
told_queued port (Err word) = []

-- the report of a port at which a BPDU was replaced
abbrev pub told_replaced : ℕ → Result Queued NoRoom → List (ℕ × Item)
told_replaced port (Ok queued) = map (λ item. (port, item)) (option_to_list queued.older)
told_replaced port (Err word) = []
