use Rattle.std.proofs.Common.{ℕ}
use Rattle.pb_lan.specs.Plans.{IsNumber}
use Rattle.pb_lan.specs.declared.event.Event.TheVariants.{Receive, Transmit}
use Rattle.pb_net.specs.Dues.{IsQuiet}
use Rattle.pb_net.proofs.net.Net.is_bridge_quiet.Given as goal

abbrev pub invariant-loop-place : goal.invariant-loop-place
invariant-loop-place l = record {
  receives : (port : ℕ) → IsNumber port l.place → IsQuiet l.self (Receive l.bridge port);
  transmits : (port : ℕ) → IsNumber port l.place → IsQuiet l.self (Transmit l.bridge port);
}
