use Rattle.std.proofs.Common.{◌≡◌, length, arith}
use Rattle.pb_frame_options.proofs.HexLemmas.{two_pairs, four_digits, second_pair}
use Rattle.pb_frame_options.proofs.tag.two_octets.Goals as goal

pub returns-in_ok-octet-in-len4-2-clause-some : goal.returns-in_ok-octet-in-len4-2-clause-some
returns-in_ok-octet-in-len4-2-clause-some c =
    two_pairs c.args.digits.now c.in_ok-octet-in-len4.field-0 c.in_ok-octet-in-len4-2.field-0 c.in-len4.len_at_least
    c.in-len4.len_below c.in_ok-octet-in-len4.ensures.pair c.in_ok-octet-in-len4-2.ensures.pair

pub returns-in_err-octet-in-len4-2-clause-none : goal.returns-in_err-octet-in-len4-2-clause-none
returns-in_err-octet-in-len4-2-clause-none c =
    rw c.from_residual-in_err-octet-in-len4-2.ensures
    (λ high low hex. c.in_err-octet-in-len4-2.ensures.none low (second_pair c.args.digits.now high low hex))

pub returns-in_default-clause-none : goal.returns-in_default-clause-none
returns-in_default-clause-none c = λ high low hex.
    let four : length c.args.digits.now ≡ 4 = four_digits c.args.digits.now high low hex in
    absurd (omega (arith, four, c.in_default.len_below))

pub returns-in_default-2-clause-none : goal.returns-in_default-2-clause-none
returns-in_default-2-clause-none c = λ high low hex.
    let four : length c.args.digits.now ≡ 4 = four_digits c.args.digits.now high low hex in
    absurd (omega (arith, four, c.in_default.len_at_least))
