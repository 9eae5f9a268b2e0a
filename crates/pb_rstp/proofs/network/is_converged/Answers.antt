use Rattle.std.proofs.Common.{List, ap, sym, ◌∙◌, map}
use Rattle.std.specs.List.{list_all}
use Rattle.pb_rstp.specs.Ports.{Machine}
use Rattle.pb_rstp.specs.Tree.{place_at, is_converged_between}
use Rattle.pb_rstp.proofs.ConvergedTest.{converged_links, converged_pass}
use Rattle.pb_rstp.proofs.network.is_converged.Goals as goal

pub returns-then-is_settled-clause-converged : goal.returns-then-is_settled-clause-converged
returns-then-is_settled-clause-converged c =
    let machines : List Machine = map (λ m. m.now) c.args.bridges.now in
    let same = c.are_converged_links.ensures
    ∙ ap (λ links. list_all (λ link. is_converged_between (place_at machines link.a) (place_at machines link.b))
    links) c.as_slice.ensures in (
      λ yes. record {
        settled = c.is_settled.ensures.settled.0 c.if-is_settled.true;
        links = converged_links c.args.plan.now machines (sym same ∙ yes);
      },
      λ converged. same ∙ converged_pass c.args.plan.now machines converged.links,
    )
