use Rattle.std.proofs.Common.{◌∙◌, ap, sym}
use Rattle.pb_service.proofs.Listings.{listed_one, listed_none}
use Rattle.pb_service.proofs.told.numbers_among.Goals as goal
use Rattle.pb_service.proofs.told.numbers_among.Goals.{then-has_text+in_ok-push, else-has_text}

pub loop-index-preserved : goal.loop-index-preserved
loop-index-preserved c =
    elim c.if-has_text.branch [
      | then-has_text+in_ok-push w ↦
          listed_one c.args.names.now c.loop-index.index _ _ _ _ c.loop-index-test.true
          (sym c.has_text.ensures ∙ w.if-has_text.true)
          (ap (λ v. v.items) w.numbers-is ∙ w.in_ok-push.ensures.items)
          ∙ c.loop-index.invariant
      | else-has_text w ↦
          listed_none c.args.names.now c.loop-index.index _ _ _ _ c.loop-index-test.true
          (sym c.has_text.ensures ∙ w.if-has_text.false) (ap (λ v. v.items) w.numbers-is)
          ∙ c.loop-index.invariant
    ]
