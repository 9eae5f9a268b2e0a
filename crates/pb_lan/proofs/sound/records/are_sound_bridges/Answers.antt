use Rattle.std.proofs.Common.{rules}
use Rattle.pb_lan.proofs.Each.{by_recursion}
use Rattle.pb_lan.proofs.sound.records.are_sound_bridges.Goals as goal
use Rattle.pb_lan.specs.Plans.{IsSoundBridge}

pub returns : goal.returns
returns c = by_recursion IsSoundBridge c.args.bridges.now (search rules)
