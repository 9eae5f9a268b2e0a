-- The walk of a frame and its copies, step by step.
use Rattle.std.proofs.Common.{◌≡◌, ◌+◌, ℕ, suc, true, List, [], ◌∷◌, ◌++◌, refl}
use Rattle.std.proofs.Common.{ap, subst, ◌∙◌, arith, append_assoc}
use Rattle.pb_lan.specs.declared.plan.Plan.{Plan}
use Rattle.pb_net.specs.Answers.{NetView}
use Rattle.pb_cmd_trace.specs.Walks.{GoesOn, Walks, HasWalked}
use Rattle.pb_cmd_trace.specs.declared.lines.TraceLine.{TraceLine}
use Rattle.pb_cmd_trace.specs.declared.onward.Onward.{Onward}
use Rattle.pb_cmd_trace.specs.declared.walk.Course.TheVariants.{GoesRound}

-- one more step, for the loop of walk_on
pub walks-more : (n : ℕ) (plan : Plan) (start : List Onward) (old mid new : NetView) (todo others : List Onward)
    (onward : Onward) (todo' : List Onward) (first text out out' : List TraceLine)
    → todo ≡ others ++ onward ∷ [] → Walks n plan start old todo mid text → out ≡ first ++ text
    → GoesOn true plan onward mid new others todo' out out'
    → (all : List TraceLine) × (out' ≡ first ++ all) × Walks (n + 1) plan start old todo' new all
walks-more n plan start old mid new todo others onward todo' first text out out' split walks so_far
    (line, next, gone, todo_is, out_is) =
    let e : suc n ≡ n + 1 = omega arith in
    let here = subst (λ t. Walks n plan start old t mid text) split walks in (
      text ++ line ∷ [],
      out_is ∙ ap (λ z. z ++ line ∷ []) so_far ∙ append_assoc first text (line ∷ []),
      subst (λ m. Walks m plan start old todo' new (text ++ line ∷ [])) e
          (mid, others, onward, next, text, line, here, gone, todo_is, refl),
    )

-- 1,000 steps make a walk that ends in a loop
pub walked-round : (n : ℕ) (plan : Plan) (start todo : List Onward) (old new : NetView) (text : List TraceLine)
    → n ≡ 1000
    → Walks n plan start old todo new text → HasWalked plan start GoesRound old new text
walked-round n plan start todo old new text full walks = record { count = n; todo = todo; walks = walks; ended = full }
