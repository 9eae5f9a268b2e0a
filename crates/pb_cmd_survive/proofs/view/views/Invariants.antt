use Rattle.std.proofs.Common.{take}
use Rattle.pb_cmd_survive.specs.Failures.{is_out}
use Rattle.pb_cmd_survive.specs.Views.{AreViews}
use Rattle.pb_cmd_survive.proofs.view.views.Given as goal

abbrev pub invariant-loop-service : goal.invariant-loop-service
invariant-loop-service l =
    AreViews l.plan l.shape (is_out l.plan l.names l.failure) (take l.service-index l.services) l.views.items
