use Rattle.std.proofs.Common.{◌≡◌, ◌+◌, ◌<◌, ◌++◌, ◌∷◌, [], ℕ, List, map, take, length, sym, ap, ◌∙◌, arith}
use Rattle.pb_lan.specs.Numbering.{numbers_from}
use Rattle.pb_lan.specs.Records.{steps_of}
use Rattle.pb_lan.specs.Shapes.{states_after}
use Rattle.pb_lan.specs.declared.shape.PortState.{PortState}
use Rattle.pb_lan.specs.declared.step.Step.{Step}
use Rattle.pb_lan.proofs.StateLemmas.{numbers-more, numbers-all, shape_of}
use Rattle.pb_history.proofs.shape.last_shape.Goals as goal

pub loop-place-preserved : goal.loop-place-preserved
loop-place-preserved c =
    let plan = c.args.plan.now in
    let bridges = c.args.tallies.now.bridges in
    let f = λ (bridge : ℕ). states_after plan bridge (steps_of bridges bridge) in
    let k = c.loop-place.place in
    let within : k < length plan.bridges = omega arith in
    let here : c.in_ok-states_after.field-0 ≡ f (k + 1) =
    c.in_ok-states_after.ensures ∙ ap (λ (steps : List Step). states_after plan (k + 1) steps)
    (c.tally_at-tally.ensures ∙ ap (λ (bs : List (List Step)). steps_of bs (k + 1)) c.bridges-bridges.ensures) in
    c.in_ok-push.ensures.items ∙ ap (λ (xs : List (List PortState)). xs ++ c.in_ok-states_after.field-0 ∷ [])
    c.loop-place.invariant
    ∙ ap (λ (s : List PortState). map f (take k (numbers_from 1 plan.bridges)) ++ s ∷ []) here
    ∙ sym (numbers-more f 1 k plan.bridges within)

pub returns : goal.returns
returns c =
    let plan = c.args.plan.now in
    let bridges = c.args.tallies.now.bridges in
    let f = λ (bridge : ℕ). states_after plan bridge (steps_of bridges bridge) in
    let k = c.loop-place.place in
    let all : k ≡ length plan.bridges =
    omega (arith, c.loop-place.auto.place-end, c.loop-place-test.false, c.len-place-end.ensures) in
    ap shape_of (c.from_vec.ensures ∙ c.loop-place.invariant ∙ numbers-all f 1 k plan.bridges all)
