use Rattle.std.proofs.Common.{◌≡◌, ◌<◌, ◌≤◌, ℕ, [], All, length, map}
use Rattle.pb_lan.specs.Plans.{IsNumber}
use Rattle.pb_run.specs.Gifts.{AreBridges, given_bridge}
use Rattle.pb_run.specs.Wires.{HasInner, HasOuter}
use Rattle.pb_run.proofs.build.bridge_workers.Given as goal

abbrev pub invariant-loop-place : goal.invariant-loop-place
invariant-loop-place g l = record {
  gifts : AreBridges l.plan l.place (map given_bridge l.workers.items);
  unset : All (λ b. b.bridge.steps ≡ []) l.workers.items;
  there : (at : ℕ × ℕ) → l.place < at.0 → at.0 ≤ length l.plan.bridges → IsNumber at.1 16
      → HasInner l.ends.outlets.items l.ends.inlets.items at;
  outer : (at : ℕ × ℕ) → HasOuter l.initial.ends.outlets.items l.initial.ends.inlets.items at
      → HasOuter l.ends.outlets.items l.ends.inlets.items at;
}
