use Rattle.std.proofs.Common.{rules}
use Rattle.pb_lan.proofs.Each.{by_recursion}
use Rattle.pb_lan.proofs.sound.records.are_sound_losses.Goals as goal
use Rattle.pb_frame.specs.Lists.{Rises}
use Rattle.pb_lan.specs.declared.plan.LinkPlan.{LinkPlan}

pub returns : goal.returns
returns c = by_recursion (λ (l : LinkPlan). Rises l.lost_ab × Rises l.lost_ba) c.args.links.now (search rules)
