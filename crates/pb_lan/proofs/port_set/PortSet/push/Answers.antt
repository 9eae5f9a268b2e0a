use Rattle.std.proofs.Common.{◌≡◌, ◌+◌, ◌-◌, ◌*◌, ◌%◌, ◌^◌, ◌<◌, ◌≤◌, ◌∷◌, ◌++◌, [], ℕ, List, ap, sym, subst, ◌∙◌}
use Rattle.std.proofs.Common.{arith}
use Rattle.std.proofs.Math.Pow.{pow_mono}
use Rattle.std.specs.List.{AllByRecursion}
use Rattle.pb_lan.specs.PortSets.{ports_in, ComesAfter}
use Rattle.pb_lan.proofs.PortBits.{low_bits, port_more}
use Rattle.pb_lan.proofs.port_set.PortSet.push.Goals as goal

-- all bits that are set are below the port's
below : (bits port : ℕ) (ports : List ℕ) → bits < 65536 → ports_in 16 1 bits ≡ ports → ComesAfter ports port
    → bits < 2 ^ (port - 1)
below bits port ports h v r = low_bits 16 1 port bits h
    (subst (λ (ps : List ℕ). AllByRecursion (λ p. p < port) ps) (sym v) r.after)

-- the port's bit is one of sixteen
least : (port : ℕ) → port ≤ 16 → 2 ^ (port - 1) ≤ 32768
least port l = pow_mono {i = port - 1} {j = 15} (omega arith)

pub overflow_add-self : goal.overflow_add-self
overflow_add-self c =
    let b = below c.self.inside.bits c.args.port c.args.self.now (omega arith) c.self.view_is c.requires in
    let m = least c.args.port c.requires.last in
    omega (arith, b, m)

pub returns : goal.returns
returns c =
    let b = below c.self.inside.bits c.args.port c.args.self.now (omega arith) c.self.view_is c.requires in
    let m = least c.args.port c.requires.last in
    let f : 1 * 2 ^ (c.args.port - 1) % 65536 ≡ 2 ^ (c.args.port - 1) = omega (arith, m) in
    let first : 1 ≤ c.args.port = c.requires.first in
    let last : c.args.port ≤ 16 = c.requires.last in
    let s : 1 + (c.args.port - 1) ≡ c.args.port = omega arith in
    ap (λ x. ports_in 16 1 (c.self.inside.bits + x)) f
    ∙ port_more (c.args.port - 1) 16 1 c.self.inside.bits (omega arith) b
    ∙ ap (λ p. ports_in 16 1 c.self.inside.bits ++ p ∷ []) s
    ∙ ap (λ ps. ps ++ c.args.port ∷ []) c.self.view_is
