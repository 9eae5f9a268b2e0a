use Rattle.std.proofs.Common.{◌≡◌, ◌||◌, drop}
use Rattle.std.specs.List.{list_any}
use Rattle.pb_frame.specs.Hex.{is_upper}
use Rattle.pb_frame.proofs.hex.has_upper_case.Given as goal

abbrev pub invariant-loop-digit : goal.invariant-loop-digit
invariant-loop-digit l = (l.found || list_any is_upper (drop l.digit-index l.digits)) ≡ list_any is_upper l.digits
