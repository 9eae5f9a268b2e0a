use Rattle.std.proofs.Common.{◌++◌, ap, ◌∙◌, List, ℕ}
use Rattle.std.proofs.lemmas.List.{take_all}
use Rattle.pb_forest.proofs.ways.joined.Goals as goal

pub returns : goal.returns
returns c =
    c.loop-number.invariant
    ∙ ap (λ (xs : List ℕ). c.args.a.links.items ++ xs)
    (take_all c.loop-number.number-index c.deref-number-items.result.now c.loop-number-test.false
    ∙ c.deref-number-items.ensures.value ∙ c.reverse.ensures.items)
