use Rattle.std.proofs.Common.{◌≡◌, ◌≤◌, All, true, false, length, map, vec_len, vec_capacity}
use Rattle.std.specs.List.{AllByRecursion, list_any}
use Rattle.pb_lan.specs.BridgeLists.{IsLawfulBridge}
use Rattle.pb_lan.specs.Laws.{is_setting}
use Rattle.pb_relay.specs.Protocol.{spanning_tree}
use Rattle.pb_workers.specs.Lossless.{refuses_when_full}
use Rattle.pb_run.proofs.record.bridge_lists.Given as goal

abbrev pub invariant-loop-worker : goal.invariant-loop-worker
invariant-loop-worker g l = record {
  steps : l.room.tallies.items ≡ map (λ b. b.bridge.steps) l.yielded;
  lawful : All (λ b. IsLawfulBridge spanning_tree b.bridge.plan b.bridge.number b.bridge.steps) l.yielded;
  unset : g.W.Wiring.sets ≡ false → AllByRecursion (λ steps. list_any is_setting steps ≡ false) l.room.tallies.items;
  whole : g.W.Wiring.waits ≡ true
      → AllByRecursion (λ steps. list_any refuses_when_full steps ≡ false) l.room.tallies.items;
  kept : g.W.Wiring.keeps ≡ true → l.room.lists.items ≡ map (λ b. b.bridge.steps) l.yielded;
  count : length l.room.lists.items ≡ length l.yielded;
  lists_room : vec_len l.fn.workers ≤ vec_capacity l.room.lists;
  room : vec_len l.fn.workers ≤ vec_capacity l.room.tallies;
}
