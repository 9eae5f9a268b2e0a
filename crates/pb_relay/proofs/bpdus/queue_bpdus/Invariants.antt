use Rattle.std.proofs.Common.{◌≡◌, ◌≤◌, length, take, vec_capacity}
use Rattle.pb_relay.specs.Bpdus.{frames_of}
use Rattle.pb_relay.specs.Copies.{AreCopied}
use Rattle.pb_lan.specs.Queues.{own_class}
use Rattle.pb_lan.specs.declared.plan.Queues.TheVariants.{PerClass}
use Rattle.pb_relay.specs.Moves.{own_at, own_queued, own_replaced, places_of}
use Rattle.pb_relay.specs.Backlogs.{KeepsBacklog}
use Rattle.pb_relay.proofs.bpdus.queue_bpdus.Given as goal

abbrev pub invariant-loop-port : goal.invariant-loop-port
invariant-loop-port l = record {
  copied : AreCopied l.initial.backlog.capacity (own_class l.initial.backlog.capacity.queues)
      (own_at (frames_of l.address.0 l.sends)) l.initial.backlog.ports
      (take l.port-index (places_of (frames_of l.address.0 l.sends))) l.room.dropped.items l.backlog.ports;
  queued : l.room.queued.items ≡ own_queued l.room.dropped.items (take l.port-index (frames_of l.address.0 l.sends));
  replaced : l.room.replaced.items
      ≡ own_replaced l.initial.backlog.capacity.queues l.initial.backlog.ports l.room.queued.items;
  count : length l.backlog.ports ≡ 16;
  kept : KeepsBacklog l.initial.backlog l.backlog;
  few : length l.room.dropped.items ≤ l.port-index;
  fewer : length l.room.queued.items ≤ l.port-index;
  fewer_replaced : length l.room.replaced.items ≤ l.port-index;
  replaced_room : l.initial.backlog.capacity.queues ≡ PerClass → length l.sends ≤ vec_capacity l.room.replaced;
  dropped_room : length l.sends ≤ vec_capacity l.room.dropped;
  queued_room : length l.sends ≤ vec_capacity l.room.queued;
}
