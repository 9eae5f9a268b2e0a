use Rattle.std.proofs.Common.{◌≡◌, ◌∷◌, ◌++◌, length, true, false, drop, arith, rules, ap, sym, ◌∙◌, Some, None}
use Rattle.std.proofs.Common.{nat_eq, codes, eqb}
use Rattle.std.proofs.lemmas.Bool.{eqb-false}
use Rattle.std.specs.List.{starts_with}
use Rattle.std.proofs.lemmas.List.{take_rest}
use Rattle.pb_frame.specs.Hex.{IsHex}
use Rattle.pb_frame.proofs.HexLemmas.{IsHex_length}
use Rattle.pb_messages.specs.Words.{port_of}
use Rattle.pb_cmd_flat.proofs.WordLemmas.{space_in, same_parts, three}
use Rattle.pb_cmd_flat.proofs.line.read_frame_line.Goals as goal

pub returns-in_default-clause-none : goal.returns-in_default-clause-none
returns-in_default-clause-none c = λ port frame l.
    let none = rw take_rest at c.in_default.ensures.whole in
    let rest : drop 3 c.args.line.now ≡ l.digits ++ 32 ∷ l.hex = ap (λ z. drop 3 z) l.spelled in
    space_in l.digits l.hex (rw rest at none)

pub returns-in_default-read_port-clause-none : goal.returns-in_default-read_port-clause-none
returns-in_default-read_port-clause-none c = λ port frame l.
    let parts = rw take_rest at c.in-Some.ensures.parts in
    let same = same_parts c.args.limit c.args.ports c.args.line.now c.in-Some.digits.now c.in-Some.hex.now port frame
    l parts.1 parts.0 in
    let number : port_of c.in-Some.digits.now ≡ Some port = rw same.0 at l.number in
    let none : None ≡ port_of c.in-Some.digits.now = c.in_default-read_port.ensures in
    cc

pub returns-clause-some : goal.returns-clause-some
returns-clause-some c = λ frame hex.
    let parts = rw take_rest at c.in-Some.ensures.parts in
    let begins : starts_with nat_eq c.args.line.now (codes "in ") ≡ true = search rules in
    record {
      short = omega arith;
      digits = c.in-Some.digits.now;
      hex = c.in-Some.hex.now;
      spelled = three c.args.line.now begins ∙ ap (λ z. codes "in " ++ z) parts.0;
      number = sym c.in-Some-read_port.ensures;
      within = omega arith;
      octets = hex;
      some =
          let e = IsHex_length c.in-Some.hex.now frame hex in
          let filled : eqb (length c.in-Some.hex.now) 0 ≡ false = search rules in
          omega (arith, eqb-false (length c.in-Some.hex.now) 0 filled);
    }

pub returns-clause-only : goal.returns-clause-only
returns-clause-only c = λ port frame l.
    let parts = rw take_rest at c.in-Some.ensures.parts in
    let same = same_parts c.args.limit c.args.ports c.args.line.now c.in-Some.digits.now c.in-Some.hex.now port frame
    l parts.1 parts.0 in
    let octets : IsHex c.in-Some.hex.now frame = rw same.1 at l.octets in
    octets
