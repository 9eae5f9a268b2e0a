use Rattle.std.proofs.Common.{rules}
use Rattle.pb_lan.proofs.Each.{by_recursion}
use Rattle.pb_lan.proofs.sound.records.are_sound_vids.Goals as goal
use Rattle.pb_lan.specs.Plans.{IsNumber}
use Rattle.pb_lan.specs.declared.plan.ServicePlan.{ServicePlan}

pub returns : goal.returns
returns c = by_recursion (λ (s : ServicePlan). IsNumber s.vid 4094) c.args.services.now (search rules)
