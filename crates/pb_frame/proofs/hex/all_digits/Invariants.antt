use Rattle.std.proofs.Common.{◌≡◌, ◌&&◌, drop}
use Rattle.std.specs.List.{list_all}
use Rattle.pb_frame.specs.Hex.{is_digit}
use Rattle.pb_frame.proofs.hex.all_digits.Given as goal

abbrev pub invariant-loop-c : goal.invariant-loop-c
invariant-loop-c l = (l.all && list_all is_digit (drop l.c-index l.text)) ≡ list_all is_digit l.text
