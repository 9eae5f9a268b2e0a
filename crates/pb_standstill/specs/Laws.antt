-- The laws of no standstill.
use Rattle.std.specs.Prelude.{◌⊎◌}
use Rattle.pb_lan.specs.Forests.{ShowsAll}
use Rattle.pb_lan.specs.LastShapes.{last_shape}
use Rattle.pb_lan.specs.Plans.{IsSound}
use Rattle.pb_lan.specs.Records.{IsLawfulRecord}
use Rattle.pb_lan.specs.declared.plan.Plan.{Plan}
use Rattle.pb_lan.specs.declared.record.Record.{Record}
use Rattle.pb_lan.specs.declared.shape.Rooted.{Rooted}
use Rattle.pb_relay.specs.Protocol.{spanning_tree}
use Rattle.pb_standstill.specs.Moves.{CanMove, StandsStill}
use Rattle.pb_standstill.specs.Waits.{NothingWaits}

-- if the links whose two ends are Forwarding form no loop, either nothing waits or some place can take a step
abbrev pub NothingWaitsOrMoves : Type 0
NothingWaitsOrMoves =
    (plan : Plan) (rec : Record) (rooted : Rooted) → IsSound plan → IsLawfulRecord spanning_tree plan rec
    → ShowsAll plan (last_shape plan rec) rooted → NothingWaits plan rec ⊎ CanMove plan rec

-- if they form no loop and no place can take a step, nothing waits
abbrev pub NoStandstill : Type 0
NoStandstill =
    (plan : Plan) (rec : Record) (rooted : Rooted) → IsSound plan → IsLawfulRecord spanning_tree plan rec
    → ShowsAll plan (last_shape plan rec) rooted → StandsStill plan rec → NothingWaits plan rec
