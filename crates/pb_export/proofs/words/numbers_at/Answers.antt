use Rattle.std.proofs.Common.{[], refl, subst, append-nil}
use Rattle.pb_export.specs.Fitting.{AreNumbers}
use Rattle.pb_export.proofs.words.numbers_at.Goals as goal

pub returns-clause-numbers : goal.returns-clause-numbers
returns-clause-numbers c =
    let numbers = c.numbers.numbers.items in
    let rest = c.numbers.rest.now in
    subst (λ ms. AreNumbers ms c.args.text.now rest) (append-nil numbers)
    (c.numbers.invariant.are [] rest (refl, c.in_default.ensures.number))
