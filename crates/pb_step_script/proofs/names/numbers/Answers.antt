use Rattle.std.proofs.Common.{◌≡◌, ◌+◌, ◌-◌, ◌<◌, ℕ, List, [], length, drop, get_or, cond, unwrap_or, bytes_eq, Bor}
use Rattle.std.proofs.Common.{sym, ap, ◌∙◌, arith}
use Rattle.std.specs.HashMap.{get_by}
use Rattle.std.proofs.lemmas.Map.Text.{hash_map_updates_str}
use Rattle.pb_frame.specs.Admission.{same}
use Rattle.pb_lan.specs.Events.{number_of}
use Rattle.pb_step_script.proofs.NameLemmas.{number_of-from, number_of-map, unwrap_or-cond}
use Rattle.pb_step_script.proofs.names.numbers.Goals as goal

-- the default that `get_or` returns after the end of a list of names
abbrev no_name : Bor (List ℕ)
no_name = record { ref_ptr = (0, 0); now = [] }

pub loop-place-preserved : goal.loop-place-preserved
loop-place-preserved c = λ q.
    let names = c.args.names.now in
    let p = c.loop-place.place - 1 in
    let name = get_or names p no_name in
    let inside : p < length names = omega arith in
    let put = hash_map_updates_str name.now c.loop-place.numbers c.insert.new.self _ c.in_ok-insert.ensures.updates q in
    let here = number_of-from (λ n. same n.now q) names p no_name inside in
    let next : c.loop-place.place ≡ p + 1 = omega arith in
    let before : unwrap_or (get_by (λ k. bytes_eq q k.now) c.loop-place.numbers) 0 ≡ number_of (λ n. same n.now q)
    (p + 1 + 1) (drop (p + 1) names) =
    c.loop-place.invariant q ∙ ap (λ n. number_of (λ m. same m.now q) (n + 1) (drop n names)) next in
    ap (λ o. unwrap_or o 0) put
    ∙ unwrap_or-cond (bytes_eq name.now q) (p + 1) (get_by (λ k. bytes_eq q k.now) c.loop-place.numbers)
    ∙ ap (λ n. cond (bytes_eq name.now q) (p + 1) n) before ∙ sym here

pub returns : goal.returns
returns c = λ q.
    let first : c.loop-place.place ≡ 0 = omega arith in
    c.loop-place.invariant q ∙ ap (λ n. number_of (λ m. same m.now q) (n + 1) (drop n c.args.names.now)) first
    ∙ sym (number_of-map (λ n. n.now) (λ other. same other q) 1 c.args.names.now)
