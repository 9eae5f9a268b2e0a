use Rattle.std.proofs.Common.{◌≡◌, ◌++◌, drop, string_bytes}
use Rattle.pb_frame.specs.Hex.{hyphened, mac_text}
use Rattle.pb_frame.proofs.mac.Mac.text.Given as goal

abbrev pub invariant-loop-octet : goal.invariant-loop-octet
invariant-loop-octet l = string_bytes l.text ++ hyphened (drop l.octet-index l.octet-items) ≡ mac_text l.self.0
