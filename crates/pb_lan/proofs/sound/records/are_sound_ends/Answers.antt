use Rattle.std.proofs.Common.{rules}
use Rattle.pb_lan.proofs.Each.{by_ends}
use Rattle.pb_lan.proofs.sound.records.are_sound_ends.Goals as goal
use Rattle.pb_lan.specs.Plans.{IsSoundEnd}

pub returns : goal.returns
returns c = by_ends (IsSoundEnd c.args.plan.now) c.args.plan.now.links (search rules)
