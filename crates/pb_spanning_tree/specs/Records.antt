-- The states of the ports at the end of a record, and the forest that they form.
use Rattle.std.specs.Prelude.{◌≡◌, ℕ, List}
use Rattle.pb_lan.specs.Forests.{IsForest}
use Rattle.pb_lan.specs.LastShapes.{last_shape}
use Rattle.pb_lan.specs.Plans.{IsSound}
use Rattle.pb_lan.specs.Records.{steps_of, IsLawfulRecord}
use Rattle.pb_lan.specs.declared.plan.Plan.{Plan}
use Rattle.pb_lan.specs.declared.plan.Spanning.TheVariants.{Rstp}
use Rattle.pb_lan.specs.declared.record.Record.{Record}
use Rattle.pb_rstp.specs.Ports.{Machine}
use Rattle.pb_rstp.specs.Profile.{rules}
use Rattle.pb_rstp.specs.Tree.{IsSettled, NoneHeld, machines_of, shape_of}

-- the bridges at the end of a record
abbrev pub last_machines : Plan → Record → List Machine
last_machines plan rec = machines_of plan (steps_of rec.bridges)

-- the bridges at the end of a record have the states that their steps report
abbrev pub ShapeIsLast : Type 0
ShapeIsLast =
    (plan : Plan) (rec : Record) → plan.spanning ≡ Rstp → IsLawfulRecord rules plan rec
    → shape_of plan (last_machines plan rec) ≡ last_shape plan rec

-- if the bridges are settled at the end of a record and no root path cost is cut, the active links of each service form
-- no loop there
abbrev pub LastForest : Type 0
LastForest =
    (plan : Plan) (rec : Record) → IsSound plan → plan.spanning ≡ Rstp → IsLawfulRecord rules plan rec
    → IsSettled plan (last_machines plan rec) → NoneHeld (last_machines plan rec)
    → (vid : ℕ) → IsForest plan (last_shape plan rec) vid
