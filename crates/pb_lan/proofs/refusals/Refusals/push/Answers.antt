use Rattle.std.proofs.Common.{◌≡◌, zero, suc, ◌+◌, ◌-◌, ◌*◌, ◌%◌, ◌^◌, ◌<◌, ◌≤◌, ◌∷◌, ◌++◌, [], ℕ, List, map, ap, sym}
use Rattle.std.proofs.Common.{subst, ◌∙◌, arith}
use Rattle.std.proofs.Math.Pow.{pow_mono}
use Rattle.std.specs.List.{AllByRecursion}
use Rattle.pb_lan.specs.PortSets.{refusals_in, word_in, ComesAfter}
use Rattle.pb_lan.specs.declared.step.NoRoom.{NoRoom}
use Rattle.pb_lan.proofs.PortBits.{low_words, refusal_more}
use Rattle.pb_lan.proofs.refusals.Refusals.push.Goals as goal

-- all bits that are set are below the port's two
below : (words port : ℕ) (refusals : List (ℕ × NoRoom)) → words < 4294967296 → refusals_in 16 1 words ≡ refusals
    → ComesAfter (map (λ r. r.0) refusals) port
    → words < 2 ^ (2 * (port - 1))
below words port refusals h v r = low_words 16 1 port words h
    (subst (λ (rs : List (ℕ × NoRoom)). AllByRecursion (λ p. p < port) (map (λ r. r.0) rs)) (sym v) r.after)

-- the port's two bits are among 32
least : (port : ℕ) → port ≤ 16 → 2 ^ (2 * (port - 1)) ≤ 1073741824
least port l = pow_mono {i = 2 * (port - 1)} {j = 30} (omega arith)

-- two bits at a place, and all bits below, fit in 32 bits
small : (d x : ℕ) → d < 4 → x ≤ 1073741824 → d * x + x ≤ 4294967296
small zero x l m = omega (arith, m)
small (suc zero) x l m = omega (arith, m)
small (suc (suc zero)) x l m = omega (arith, m)
small (suc (suc (suc zero))) x l m = omega (arith, m)
small (suc (suc (suc (suc d)))) x l m = absurd (omega (arith, l))

pub overflow_add-self : goal.overflow_add-self
overflow_add-self c =
    let b = below c.self.inside.words c.args.port c.args.self.now (omega arith) c.self.view_is c.requires in
    let t = small c.bits_of.result (2 ^ (2 * (c.args.port - 1))) c.bits_of.ensures.few
    (least c.args.port c.requires.last) in
    omega (arith, b, t)

pub returns : goal.returns
returns c =
    let b = below c.self.inside.words c.args.port c.args.self.now (omega arith) c.self.view_is c.requires in
    let t = small c.bits_of.result (2 ^ (2 * (c.args.port - 1))) c.bits_of.ensures.few
    (least c.args.port c.requires.last) in
    let f : c.bits_of.result * 2 ^ (2 * (c.args.port - 1)) % 4294967296 ≡ c.bits_of.result * 2 ^
    (2 * (c.args.port - 1)) = omega (arith, b, t) in
    let first : 1 ≤ c.args.port = c.requires.first in
    let last : c.args.port ≤ 16 = c.requires.last in
    let s : 1 + (c.args.port - 1) ≡ c.args.port = omega arith in
    ap (λ x. refusals_in 16 1 (c.self.inside.words + x)) f
    ∙ refusal_more (c.args.port - 1) 16 1 c.self.inside.words c.bits_of.result (omega arith) b c.bits_of.ensures.few
    ∙ ap (λ p. refusals_in 16 1 c.self.inside.words ++ word_in p c.bits_of.result) s
    ∙ ap (λ rs. refusals_in 16 1 c.self.inside.words ++ rs) (c.bits_of.ensures.word c.args.port)
    ∙ ap (λ rs. rs ++ (c.args.port, c.args.word) ∷ []) c.self.view_is
