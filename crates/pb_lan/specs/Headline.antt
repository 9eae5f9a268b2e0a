-- What holds of every lawful record, whatever events the network had and in whatever order its places took their steps.
use Rattle.pb_lan.specs.Laws.{DeparturesAreArrivals, LeaveAtMostOnce, ArriveExactlyOnce, MultiplyNone, KeepTheirOrder}
use Rattle.pb_lan.specs.declared.plan.Plan.{Plan}
use Rattle.pb_lan.specs.declared.record.Record.{Record}

-- the frames that leave are frames that entered, less a priority tag, as often as the forest allows and in order
pub record IsFaithful (plan : Plan) (rec : Record) : Type 0 where
  pub arrivals : DeparturesAreArrivals plan rec
  pub at_most_once : LeaveAtMostOnce plan rec
  pub exactly_once : ArriveExactlyOnce plan rec
  pub none_multiplied : MultiplyNone plan rec
  pub in_order : KeepTheirOrder plan rec
