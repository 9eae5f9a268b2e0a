use Rattle.std.proofs.Common.{◌≡◌, ◌*◌, length, false, arith, rules}
use Rattle.std.specs.List.{list_all}
use Rattle.pb_frame.specs.Hex.{is_digit}
use Rattle.pb_frame.proofs.HexLemmas.{IsHex_digits, IsHex_length}
use Rattle.pb_step_script.proofs.line.read_frame.Goals as goal

pub returns-in-Err-Digit-clause-none : goal.returns-in-Err-Digit-clause-none
returns-in-Err-Digit-clause-none c = λ frame hex some.
    let digits = IsHex_digits c.args.hex.now frame hex in
    let wrong : list_all is_digit c.args.hex.now ≡ false = c.hex_octets.ensures.digit.0 (search rules) in
    cc

pub returns-in-Err-Odd-clause-none : goal.returns-in-Err-Odd-clause-none
returns-in-Err-Odd-clause-none c = λ frame hex some.
    let even : length c.args.hex.now ≡ 2 * length frame = IsHex_length c.args.hex.now frame hex in
    let odd = (c.hex_octets.ensures.odd.0 (search rules)).1 in
    omega (arith, odd)
