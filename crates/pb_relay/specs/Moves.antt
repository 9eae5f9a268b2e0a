-- The changes of a bridge's spanning tree.
use Rattle.std.specs.Prelude.{◌≡◌, ℕ, ◌-◌, ◌≤◌, true, List, [], ◌∷◌, None, map, slice_set, slice_index_or, ◌==◌, not, if◌then◌else◌}
use Rattle.std.specs.List.{filter, flat_map}
use Rattle.std.specs.Option.{option_to_list}
use Rattle.pb_fdb.specs.Tables.{Table, flushed}
use Rattle.pb_lan.specs.BridgeLists.{own_item}
use Rattle.pb_lan.specs.Ports.{port_at, is_provider}
use Rattle.pb_lan.specs.Queues.{is_refused}
use Rattle.pb_lan.specs.declared.plan.Plan.{Plan}
use Rattle.pb_lan.specs.declared.plan.Queues.{Queues}
use Rattle.pb_relay.specs.Backlogs.{older_in}
use Rattle.pb_lan.specs.declared.shape.PortState.{PortState}
use Rattle.pb_lan.specs.declared.step.Item.{Item}
use Rattle.pb_lan.specs.declared.step.NoRoom.{NoRoom}
use Rattle.pb_relay.specs.Copies.{item_with}

-- the states of the local ports after these changes, in order
abbrev pub states_changed : List PortState → List (ℕ × PortState) → List PortState
states_changed states [] = states
states_changed states (c ∷ cs) = states_changed (slice_set states (c.0 - 1) c.1) cs

-- the learning table after each of these ports is flushed, in order
abbrev pub all_flushed : Table → List ℕ → Table
all_flushed table [] = table
all_flushed table (port ∷ ports) = all_flushed (flushed table port) ports

-- the frame to be sent at a port, as an item of the bridge's own
abbrev pub own_at : List (ℕ × List ℕ) → ℕ → Item
own_at [] port = item_with None 0 []
own_at (s ∷ ss) port = if s.0 == port then item_with None 0 s.1 else own_at ss port

-- the ports at which frames are to be sent
abbrev pub places_of : List (ℕ × List ℕ) → List ℕ
places_of sends = map (λ s. s.0) sends

-- the frames that were queued, as items of the bridge's own
abbrev pub own_queued : List (ℕ × NoRoom) → List (ℕ × List ℕ) → List (ℕ × Item)
own_queued dropped sends = map own_item (filter (λ s. not (is_refused dropped s.0)) sends)

-- the BPDUs whose places these newer ones take, given what waits at each port
abbrev pub own_replaced : Queues → List (List (List Item)) → List (ℕ × Item) → List (ℕ × Item)
own_replaced queues ports queued =
    flat_map (λ q. map (λ item. (q.0, item)) (option_to_list (older_in queues (slice_index_or ports (q.0 - 1) [])))) queued

-- the port is a local port that goes to another bridge
abbrev pub IsBridgePort : Plan → ℕ → ℕ → Type 0
IsBridgePort plan number port = (is_provider (port_at plan number port) ≡ true) × (1 ≤ port) × (port ≤ 16)
