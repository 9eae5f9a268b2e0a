use Rattle.std.proofs.Common.{◌≡◌, map, take}
use Rattle.pb_relay.specs.Settled.{machines_in}
use Rattle.pb_net.proofs.net.Net.machines.Given as goal

abbrev pub invariant-loop-bridge : goal.invariant-loop-bridge
invariant-loop-bridge l = map (λ m. m.now) l.machines.items ≡ take l.bridge-index (machines_in l.self.plan l.self.rec)
