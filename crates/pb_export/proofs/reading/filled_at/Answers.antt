use Rattle.std.proofs.Common.{◌++◌}
use Rattle.pb_export.proofs.FitLemmas.{value_one}
use Rattle.pb_export.proofs.reading.filled_at.Goals as goal

pub returns-clause-whole : goal.returns-clause-whole
returns-clause-whole c =
    let until = c.args.slot.now.until.now in
    let found = rw c.in-Some.is at c.in_ok-field.ensures.whole in
    λ back after. c.in-None.ensures (
      back,
      value_one c.args.slot.now.kind until c.args.text.now c.in-Some.rest.now
          (until ++ back) found after,
    )
