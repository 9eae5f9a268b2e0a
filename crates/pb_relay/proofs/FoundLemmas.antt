-- What the learning table reports is what the steps determine.
use Rattle.std.proofs.Common.{◌≡◌, ℕ, Bool, List, length, nat_le, ap, subst, ◌∙◌}
use Rattle.std.specs.Option.{option_map}
use Rattle.std.specs.declared.option.Option.{Option}
use Rattle.pb_frame.specs.Frames.{src_of, is_group}
use Rattle.pb_frame.specs.Stations.{Sighting, is_sighted, standing, IsLearnt, live, where_in}
use Rattle.pb_frame.specs.Lists.{first}
use Rattle.pb_frame.specs.declared.learnt.Learnt.{Learnt}
use Rattle.pb_lan.specs.Ports.{port_at}
use Rattle.pb_lan.specs.Queues.{vid_in}
use Rattle.pb_lan.specs.Choice.{news_of, found, Learns, table_limit}
use Rattle.pb_lan.specs.declared.plan.Plan.{Plan}
use Rattle.pb_lan.specs.declared.shape.PortState.{PortState}
use Rattle.pb_lan.specs.declared.step.Item.{Item}
use Rattle.pb_lan.specs.declared.step.Step.{Step}
use Rattle.pb_relay.specs.Standing.{IsStanding}

-- the port at which the table has a station is the one that the steps give
pub found_is : (plan : Plan) (b : ℕ) (steps : List Step) (states : List PortState) (queues : List (List (List Item)))
    (now : ℕ) (table : List Sighting) (vid : ℕ) (mac : List ℕ)
    → IsStanding plan b steps states queues now table
    → where_in plan.ageing now vid mac table ≡ found plan b steps vid mac
found_is plan b steps states queues now table vid mac s =
    ap (λ t. option_map (λ x. x.port) (first (is_sighted vid mac) t)) s.stations
    ∙ ap (λ n. option_map (λ x. x.port) (first (is_sighted vid mac) (standing plan.ageing n (news_of plan b steps))))
    s.clock

-- what the table reports about a source is what the step may report
pub learns_is : (plan : Plan) (b : ℕ) (steps : List Step) (states : List PortState) (queues : List (List (List Item)))
    (now : ℕ) (table : List Sighting) (port : ℕ) (wire : List ℕ) (learnt : Learnt)
    → IsStanding plan b steps states queues now table
    → IsLearnt (is_group (src_of wire)) (where_in plan.ageing now (vid_in plan (port_at plan b port) wire)
    (src_of wire) table) (nat_le table_limit (length (live plan.ageing now table))) port learnt
    → Learns plan b steps port wire learnt
learns_is plan b steps states queues now table port wire learnt s h =
    subst (λ (z : Bool). IsLearnt (is_group (src_of wire))
    (found plan b steps (vid_in plan (port_at plan b port) wire) (src_of wire)) z port learnt)
    (ap (λ t. nat_le table_limit (length t)) s.stations ∙ ap
    (λ n. nat_le table_limit (length (standing plan.ageing n (news_of plan b steps)))) s.clock)
    (subst (λ (z : Option ℕ). IsLearnt (is_group (src_of wire)) z
    (nat_le table_limit (length (live plan.ageing now table))) port learnt)
    (found_is plan b steps states queues now table (vid_in plan (port_at plan b port) wire) (src_of wire) s) h)
