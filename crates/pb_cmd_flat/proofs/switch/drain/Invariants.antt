use Rattle.std.proofs.Common.{ℕ, drop}
use Rattle.pb_cmd_flat.specs.Quiet.{AreUsed, IsWaiting, IsDraining}
use Rattle.pb_cmd_flat.proofs.switch.drain.Given as goal

abbrev pub invariant-loop-exit : goal.invariant-loop-exit
invariant-loop-exit l =
    AreUsed l.bridge (drop l.exit-index l.exits)
    × ((ports : ℕ) → IsWaiting ports l.exits l.fn.bridge
    → IsDraining ports (drop l.exit-index l.exits) l.fn.bridge l.bridge)
