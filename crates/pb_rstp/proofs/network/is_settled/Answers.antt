use Rattle.std.proofs.Common.{List, ap, sym, ◌∙◌, map}
use Rattle.std.specs.List.{list_all}
use Rattle.pb_rstp.specs.Ports.{Machine}
use Rattle.pb_rstp.specs.Tree.{place_at, is_settled_between}
use Rattle.pb_rstp.proofs.SettledForest.{settled_is_forest}
use Rattle.pb_rstp.proofs.SettledTest.{test_tells}
use Rattle.pb_rstp.proofs.network.is_settled.Goals as goal

pub returns-then-are_in_line-clause-settled : goal.returns-then-are_in_line-clause-settled
returns-then-are_in_line-clause-settled c =
    let machines : List Machine = map (λ m. m.now) c.args.bridges.now in
    let same = c.are_settled_links.ensures
    ∙ ap (λ links. list_all (λ link. is_settled_between (place_at machines link.a) (place_at machines link.b))
    links) c.as_slice.ensures in
    let tells = test_tells c.args.plan.now machines in (
      λ yes. record { in_line = c.are_in_line.ensures.0 c.if-are_in_line.true; links = tells.0 (sym same ∙ yes) },
      λ settled. same ∙ tells.1 settled.links,
    )

pub returns-then-are_in_line-clause-forest : goal.returns-then-are_in_line-clause-forest
returns-then-are_in_line-clause-forest c settled sound are none =
    settled_is_forest c.args.plan.now (map (λ m. m.now) c.args.bridges.now) sound are
    ((returns-then-are_in_line-clause-settled c).0 settled) none
