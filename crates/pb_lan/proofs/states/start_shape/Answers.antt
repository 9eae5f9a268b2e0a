use Rattle.std.proofs.Common.{◌≡◌, ◌<◌, ◌++◌, ◌∷◌, [], ℕ, List, map, take, length, sym, ap, ◌∙◌, arith}
use Rattle.pb_lan.specs.Numbering.{numbers_from}
use Rattle.pb_lan.specs.Shapes.{states_after}
use Rattle.pb_lan.specs.declared.shape.PortState.{PortState}
use Rattle.pb_lan.proofs.StateLemmas.{numbers-more, numbers-all, shape_of}
use Rattle.pb_lan.proofs.states.start_shape.Goals as goal

pub loop-place-preserved : goal.loop-place-preserved
loop-place-preserved c =
    let plan = c.args.plan.now in
    let f = λ (bridge : ℕ). states_after plan bridge [] in
    let k = c.loop-place.place in
    let within : k < length plan.bridges = omega arith in
    c.in_ok-push.ensures.items ∙ ap (λ (xs : List (List PortState)). xs ++ c.in_ok-start_states.field-0 ∷ [])
    c.loop-place.invariant
    ∙ ap (λ (s : List PortState). map f (take k (numbers_from 1 plan.bridges)) ++ s ∷ []) c.in_ok-start_states.ensures
    ∙ sym (numbers-more f 1 k plan.bridges within)

pub returns : goal.returns
returns c =
    let plan = c.args.plan.now in
    let f = λ (bridge : ℕ). states_after plan bridge [] in
    let k = c.loop-place.place in
    let all : k ≡ length plan.bridges =
    omega (arith, c.loop-place.auto.place-end, c.loop-place-test.false, c.len-place-end.ensures) in
    ap shape_of (c.from_vec.ensures ∙ c.loop-place.invariant ∙ numbers-all f 1 k plan.bridges all)
