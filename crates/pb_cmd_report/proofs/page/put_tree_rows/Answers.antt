use Rattle.std.proofs.Common.{refl, subst, sym}
use Rattle.std.proofs.lemmas.Result.{on_ok_weaker}
use Rattle.pb_cmd_report.specs.Pages.{AreTreesBy}
use Rattle.pb_cmd_report.specs.Trees.{all_given_rows, protocol_rows}
use Rattle.pb_cmd_report.proofs.page.put_tree_rows.Goals as goal

pub returns-in-Fixed : goal.returns-in-Fixed
returns-in-Fixed c =
    let s = c.args.standing.now in
    let trees = all_given_rows s.plan.now c.args.base.now.shape in
    on_ok_weaker c.put_given.result
    (λ e. (
      trees,
      e,
      subst (λ k. AreTreesBy k s.plan.now s.names.now s.patience.ticks s.patience.events c.args.base.now trees)
          (sym c.in-Fixed.is) refl,
    )) c.put_given.ensures

pub returns-in-Rstp : goal.returns-in-Rstp
returns-in-Rstp c =
    let s = c.args.standing.now in
    let trees = protocol_rows s.plan.now s.calm.rec in
    on_ok_weaker c.put_protocol.result
    (λ e. (
      trees,
      e,
      subst (λ k. AreTreesBy k s.plan.now s.names.now s.patience.ticks s.patience.events c.args.base.now trees)
          (sym c.in-Rstp.is)
          (record { convergence = s.convergence; calm = s.calm; is_calm = c.requires.is_calm; rows = refl }),
    )) c.put_protocol.ensures
