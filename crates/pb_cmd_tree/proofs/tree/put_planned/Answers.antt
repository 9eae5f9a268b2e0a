use Rattle.std.proofs.Common.{◌++◌, string_bytes, refl, subst}
use Rattle.std.proofs.lemmas.Result.{on_ok_weaker}
use Rattle.pb_cmd_tree.specs.TreeTexts.{given_lines, IsGivenText}
use Rattle.pb_names.proofs.TextLemmas.{join_three}
use Rattle.pb_cmd_tree.proofs.tree.put_planned.Goals as goal

pub returns-clause-text : goal.returns-clause-text
returns-clause-text c =
    let plan = c.args.plan.now in
    let shape = c.in_ok-shape.shape in
    let old = string_bytes c.args.out.now in
    let given = given_lines plan shape in
    let f = c.in_ok-put_forest.ensures in
    on_ok_weaker c.put_services.result (λ s. (
      given ++ f.0 ++ s.0,
      join_three old given f.0 s.0 (string_bytes c.put_given.new.out) (string_bytes c.put_forest.new.out)
          (string_bytes c.put_services.new.out) c.in_ok-put_given.ensures f.1 s.1,
      subst (λ sh. IsGivenText plan sh (given ++ f.0 ++ s.0)) c.in_ok-shape.ensures.shape
          (record { forest = f.0; is_forest = f.2; services = s.0; are_services = s.2; text_is = refl }),
    )) c.put_services.ensures
