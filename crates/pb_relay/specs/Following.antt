-- How a bridge applies the changes of its spanning tree.
use Rattle.std.specs.Prelude.{◌≡◌, ◌≤◌, ℕ, List, length}
use Rattle.std.specs.List.{AllByRecursion}
use Rattle.pb_lan.specs.Queues.{own_class}
use Rattle.pb_lan.specs.declared.shape.PortState.{PortState}
use Rattle.pb_lan.specs.declared.step.Moved.{Moved}
use Rattle.pb_rstp.specs.declared.change.Change.{Change}
use Rattle.pb_relay.specs.Bpdus.{frames_of}
use Rattle.pb_relay.specs.Copies.{AreCopied, AreSeparate}
use Rattle.pb_relay.specs.Backlogs.{KeepsBacklog}
use Rattle.pb_relay.specs.declared.forwarding.Forwarding.{Forwarding}
use Rattle.pb_relay.specs.Moves.{all_flushed, own_at, own_queued, own_replaced, places_of, states_changed}

-- the change is of local ports, and sends at most one BPDU at each
pub record IsOfPorts (address : List ℕ) (change : Change) : Type 0 where
  pub within : AllByRecursion (λ (c : ℕ × PortState). (1 ≤ c.0) × (c.0 ≤ 16)) change.states
  pub separate : AreSeparate (places_of (frames_of address change.send))
  pub few : length change.send ≤ 16

-- the states are set, the ports flushed, the BPDUs queued or dropped, and all of this is reported
pub record HasFollowed (address : List ℕ) (change : Change) (old : Forwarding) (moved : Moved)
    (new : Forwarding) : Type 0 where
  pub set_states : new.states ≡ states_changed old.states change.states
  pub flushed_table : new.table ≡ all_flushed old.table change.flush
  pub copied : AreCopied old.backlog.capacity (own_class old.backlog.capacity.queues) (own_at (frames_of address change.send)) old.backlog.ports
      (places_of (frames_of address change.send)) moved.dropped new.backlog.ports
  pub count : length new.backlog.ports ≡ 16
  pub backlog_kept : KeepsBacklog old.backlog new.backlog
  pub told : moved.states ≡ change.states
  pub flushed : moved.flushed ≡ change.flush
  pub queued : moved.queued ≡ own_queued moved.dropped (frames_of address change.send)
  pub replaced : moved.replaced ≡ own_replaced old.backlog.capacity.queues old.backlog.ports moved.queued
