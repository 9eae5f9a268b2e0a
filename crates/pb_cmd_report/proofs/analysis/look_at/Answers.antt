use Rattle.std.proofs.Common.{sym, subst}
use Rattle.std.proofs.lemmas.Result.{IfOk-weaker}
use Rattle.pb_cmd_survive.specs.Impacts.{IsDriven}
use Rattle.pb_cmd_report.proofs.analysis.look_at.Goals as goal

pub returns : goal.returns
returns c =
    let s = c.args.standing.now in
    let net = c.in_ok-net.net in
    let convergence = c.in_ok-net.convergence in
    IfOk-weaker c.seen_in.result _ _
    (λ o seen. record {
      is_impact = record {
        failed = seen.failed;
        last = net;
        driven = subst (λ r. IsDriven s.plan.now s.names.now s.patience.ticks s.patience.events c.args.failure r net)
            (sym seen.converged) c.in_ok-net.ensures.ok;
        planned = c.in_ok-net.ensures.plan;
        lawful = seen.lawful;
        enough = seen.enough;
        views = seen.views;
      };
      shape_is = seen.shape_is;
    })
    c.seen_in.ensures
