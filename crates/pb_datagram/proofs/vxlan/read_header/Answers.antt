use Rattle.std.proofs.Common.{◌≡◌, ℕ, ◌+◌, ◌-◌, ◌<◌, List, length, take, drop, sym, subst, arith}
use Rattle.std.proofs.lemmas.List.{get_or-drop, take_rest}
use Rattle.byteorder.specs.Endian.{big_number}
use Rattle.byteorder.specs.Numbers.{big_from-lt}
use Rattle.pb_datagram.proofs.vxlan.read_header.Goals as goal

pub invariant_of-result : goal.invariant_of-result
invariant_of-result c =
    let octets = c.args.datagram.now in
    let P : ℕ → Type 0 = λ n. n < 256 in
    let Q : ℕ → Type 0 = λ n. n < 16777216 in
    let R : List ℕ → Type 0 = λ xs. Q (big_number 3 xs) in
    let fits : R (drop 4 octets) = big_from-lt 0 3 (drop 4 octets)
    (λ k. subst P (sym (get_or-drop 4 octets k 0)) (omega (arith, c.type_inv.datagram (4 + k)))) in
    let rest : take (length octets - 4) (drop 4 octets) ≡ drop 4 octets = take_rest octets 4 in
    record { in_range = subst Q (sym c.read_u24-number.ensures) (subst R (sym rest) fits) }
