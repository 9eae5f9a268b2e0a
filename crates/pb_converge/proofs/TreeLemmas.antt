-- Bridges that have converged form the spanning tree.
use Rattle.std.proofs.Common.{◌≡◌, true, Some, subst, sym}
use Rattle.pb_frame.proofs.Lists.{Some-injective}
use Rattle.pb_lan.specs.Plans.{IsSound}
use Rattle.pb_lan.specs.Records.{steps_of}
use Rattle.pb_lan.specs.declared.plan.Plan.{Plan}
use Rattle.pb_lan.specs.declared.plan.Spanning.{Spanning}
use Rattle.pb_lan.specs.declared.plan.Spanning.TheVariants.{Rstp}
use Rattle.pb_lan.specs.declared.record.Record.{Record}
use Rattle.pb_relay.specs.Settled.{TellsConverged, TellsConvergedBy, machines_in}
use Rattle.pb_spanning_tree.specs.Planned.{HasAddresses}
use Rattle.pb_spanning_tree.proofs.PlannedLaws.{converged_tree}
use Rattle.pb_converge.specs.Drives.{FormTree}

-- bridges of which a look says that they have converged form the tree
pub form_tree : (plan : Plan) (rec : Record) → IsSound plan → HasAddresses plan → plan.spanning ≡ Rstp
    → TellsConverged plan rec (Some true) → FormTree plan rec
unfolding machines_in
form_tree plan rec sound addresses rstp told none =
    let P : Spanning → Type 0 = λ z. TellsConvergedBy z plan (machines_in plan rec) (Some true) in
    let by : P Rstp = subst P rstp told in
    let yes : by.0 ≡ true = sym (Some-injective by.1) in
    converged_tree plan (steps_of rec.bridges) sound addresses (by.2.converged.0 yes) none
