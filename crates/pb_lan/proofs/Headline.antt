-- The laws of lawful records, for one record.
use Rattle.pb_lan.proofs.Arrivals.{every_departure_is_an_arrival}
use Rattle.pb_lan.proofs.AtMostOnce.{each_leaves_at_most_once}
use Rattle.pb_lan.proofs.ExactlyOnce.{each_arrives_exactly_once}
use Rattle.pb_lan.proofs.KeptOrder.{each_keeps_its_order}
use Rattle.pb_lan.proofs.NotMultiplied.{no_frame_is_multiplied}
use Rattle.pb_lan.specs.Plans.{IsSound}
use Rattle.pb_lan.specs.Records.{IsLawfulRecord}
use Rattle.pb_lan.specs.Rules.{Rules}
use Rattle.pb_lan.specs.declared.plan.Plan.{Plan}
use Rattle.pb_lan.specs.declared.record.Record.{Record}
use Rattle.pb_lan.specs.Headline.{IsFaithful}

pub faithful : (rules : Rules) (plan : Plan) (rec : Record) → IsSound plan → IsLawfulRecord rules plan rec
    → IsFaithful plan rec
faithful rules plan rec sound lawful = record {
  arrivals = every_departure_is_an_arrival rules plan rec sound lawful;
  at_most_once = each_leaves_at_most_once rules plan rec sound lawful;
  exactly_once = each_arrives_exactly_once rules plan rec sound lawful;
  none_multiplied = no_frame_is_multiplied rules plan rec sound lawful;
  in_order = each_keeps_its_order rules plan rec sound lawful;
}
