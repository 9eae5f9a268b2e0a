use Rattle.std.proofs.Common.{◌<◌, arith}
use Rattle.pb_plan_errors.proofs.Sharing.{again_finding}
use Rattle.pb_plan_errors.proofs.finding.twice_in.Goals as goal

pub returns-in-Some-with_word : goal.returns-in-Some-with_word
returns-in-Some-with_word c =
    let first = c.in-Some.ensures.found in
    let second = c.in-Some-with_word.ensures.found in
    let below : c.in-Some.first < c.in-Some-with_word.second = omega (arith, second.0) in (
      again_finding _ _ c.at_site.result _ _ _ _ c.at_site.ensures.about c.at_site.ensures.other below first.1 second.1,
      c.at_site.ensures.at,
    )
