use Rattle.std.proofs.Common.{◌≡◌, ◌+◌, ◌*◌, ◌∷◌, [], true, arith, append-nil, get_or}
use Rattle.std.proofs.lemmas.List.{take_all}
use Rattle.pb_frame.specs.Hex.{is_digit}
use Rattle.pb_frame.proofs.HexLemmas.{IsHex_more, IsHex_end, IsHex_set, octet_of, octet_fits, octet_pair, true_at}
use Rattle.pb_frame.proofs.hex.read_pairs.Goals as goal

pub overflow_cast-octets : goal.overflow_cast-octets
overflow_cast-octets c =
    let text = c.args.digits.now in
    let i = c.loop-i.i in
    let high = get_or text (2 * i) 0 in
    let low = get_or text (2 * i + 1) 0 in
    let first : is_digit high ≡ true = true_at is_digit text (2 * i) (omega arith) c.requires.digits in
    let second : is_digit low ≡ true = true_at is_digit text (2 * i + 1) (omega arith) c.requires.digits in
    let fits = octet_fits high low (omega (arith, c.type_inv.digits (2 * i)))
    (omega (arith, c.type_inv.digits (2 * i + 1))) first second in
    rw (c.from.ensures, c.from-in-loop-i.ensures) (omega (arith, fits))

pub loop-i-preserved : goal.loop-i-preserved
loop-i-preserved c = λ more rest.
    let text = c.args.digits.now in
    let i = c.loop-i.i in
    let high = get_or text (2 * i) 0 in
    let low = get_or text (2 * i + 1) 0 in
    let first : is_digit high ≡ true = true_at is_digit text (2 * i) (omega arith) c.requires.digits in
    let second : is_digit low ≡ true = true_at is_digit text (2 * i + 1) (omega arith) c.requires.digits in
    let octet = octet_of high low in
    let pair = octet_pair high low (omega (arith, c.type_inv.digits (2 * i)))
    (omega (arith, c.type_inv.digits (2 * i + 1))) first second in
    rw (c.from.ensures, c.from-in-loop-i.ensures) (IsHex_set text _ i octet more (omega arith)
    (c.loop-i.invariant (octet ∷ more) (IsHex_more text i octet more (omega arith) pair rest)))

pub returns : goal.returns
returns c =
    let whole = c.loop-i.invariant [] (IsHex_end c.args.digits.now c.loop-i.i (omega arith)) in
    let all = take_all c.loop-i.i c.loop-i.octets (omega arith) in
    rw (append-nil, all) at whole
