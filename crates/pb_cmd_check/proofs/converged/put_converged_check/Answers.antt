use Rattle.std.proofs.Common.{◌≡◌, ◌++◌, string_bytes, inl, refl, subst}
use Rattle.pb_frame.proofs.TextLemmas.{with_piece}
use Rattle.pb_report.specs.ForestTexts.{IsForestText}
use Rattle.pb_cmd_check.specs.Checks.{plan_line}
use Rattle.pb_cmd_check.proofs.converged.put_converged_check.Goals as goal

pub returns-in_ok-put_converged-in-Ok : goal.returns-in_ok-put_converged-in-Ok
returns-in_ok-put_converged-in-Ok c =
    let plan = c.in-Ok.plan in
    let old = string_bytes c.args.out.now in
    let shown = string_bytes c.put_forest.new.out in
    let line = plan_line plan in
    let f = c.in_ok-put_forest-in-Ok.ensures in
    let s = c.in_ok-put_converged-in-Ok.ensures in
    let front : shown ≡ old ++ (line ++ f.0) = with_piece old (string_bytes c.put_plan.new.out) shown line f.0
    c.in_ok-put_plan-in-Ok.ensures f.1 in (
      line ++ f.0 ++ s.0,
      with_piece old shown (string_bytes c.put_converged.new.out) (line ++ f.0) s.0 front s.1,
      inl (
        refl,
        record {
          plan = plan;
          specs = c.in-Ok._ports.items;
          told = c.in-Ok.ensures.plan;
          forest = f.0;
          is_forest = subst (λ shape. IsForestText plan shape f.0) c.in_ok-shape-in-Ok.ensures f.2;
          converged = s.0;
          is_converged = s.2;
          text_is = refl;
        },
      ),
    )
