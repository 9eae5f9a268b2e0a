use Rattle.std.proofs.Common.{string_bytes, subst}
use Rattle.pb_cmd_report.specs.Changes.{IsChangeText}
use Rattle.pb_cmd_report.proofs.change.change_of.Goals as goal

pub returns-in-Ok-clause-ok : goal.returns-in-Ok-clause-ok
returns-in-Ok-clause-ok g c =
    let plan = c.args.plan.now in
    record {
      said = c.in_ok-said.said.items;
      is_said = c.in_ok-said.ensures.ok;
      plan = plan;
      told = c.requires.told;
      change = subst
          (λ said. IsChangeText plan c.args.old.title.now said c.args.asked.now.ticks (string_bytes c.in-Ok.text))
          c.as_slice.ensures.value c.in-Ok.ensures;
    }
