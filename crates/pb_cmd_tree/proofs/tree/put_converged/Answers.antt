use Rattle.std.proofs.Common.{◌++◌, string_bytes, refl, subst, sym, ap}
use Rattle.std.proofs.lemmas.Result.{err_from_is_err_and}
use Rattle.pb_converge.proofs.LimitLemmas.{caused-failed}
use Rattle.pb_converge.proofs.EndLemmas.{rest_in}
use Rattle.pb_converge.specs.Drives.{IsCaused}
use Rattle.pb_converge.specs.Enough.{HasEnoughMemory}
use Rattle.pb_converge.specs.Convergences.{convergence_line}
use Rattle.pb_lan.specs.LastShapes.{last_shape}
use Rattle.pb_report.specs.ForestTexts.{IsForestText}
use Rattle.pb_cmd_tree.specs.TreeTexts.{IsGivenText, protocol_lines}
use Rattle.pb_names.proofs.TextLemmas.{join_three}
use Rattle.pb_cmd_tree.proofs.TextLemmas.{given_tree, lawful_end, protocol_tree}
use Rattle.pb_cmd_tree.proofs.tree.put_converged.Goals as goal

pub returns-in_err-convergence-clause-err : goal.returns-in_err-convergence-clause-err
returns-in_err-convergence-clause-err c =
    let p = err_from_is_err_and c.from_residual.result c.from_residual.ensures.1 in
    let net = c.args.net in
    let caused = caused-failed c.args.ticks 1000000000 c.in_err-convergence.field-0.0 net c.converge.new.net
    c.in_err-convergence.ensures.enough c.in_err-convergence.ensures.err in
    rw p.1 (subst (λ e. IsCaused c.args.ticks 0 0 1000000000 e net) (sym p.2) caused)

pub returns-in_ok-put_planned-in-Fixed-clause-ok : goal.returns-in_ok-put_planned-in-Fixed-clause-ok
returns-in_ok-put_planned-in-Fixed-clause-ok c =
    let plan = c.args.plan.now in
    let last = c.converge.new.net in
    let convergence = c.in_ok-convergence.convergence in
    let t = c.in_ok-put_planned-in-Fixed.ensures.text in
    let given = subst (λ r. IsGivenText plan (last_shape plan r) t.0) c.in_ok-tallies-in-Fixed.ensures.record t.2 in
    let fits = rest_in c.args.ticks 1000000000 convergence plan.spanning c.args.net last
    (ap (λ p. p.spanning) c.requires.plan) c.in_ok-convergence.ensures.ok in (
      t.0,
      t.1,
      record {
        last = last;
        convergence = convergence;
        ends = c.in_ok-convergence.ensures.ok;
        planned = c.converge.ensures.plan;
        lawful = lawful_end plan last c.in_ok-tallies-in-Fixed.tallies c.converge.ensures.plan
            c.in_ok-tallies-in-Fixed.ensures.record
            c.in_ok-tallies-in-Fixed.ensures.lawful;
        enough = subst HasEnoughMemory c.in_ok-tallies-in-Fixed.ensures.record
            c.in_ok-put_planned-in-Fixed.ensures.enough;
        trees = given_tree plan last.rec plan.spanning convergence t.0 fits c.in-Fixed.is given;
      },
    )

pub returns-in_ok-put_last_forest-in-Rstp-clause-ok : goal.returns-in_ok-put_last_forest-in-Rstp-clause-ok
returns-in_ok-put_last_forest-in-Rstp-clause-ok c =
    let plan = c.args.plan.now in
    let last = c.converge.new.net in
    let convergence = c.in_ok-convergence.convergence in
    let front = convergence_line convergence in
    let trees = protocol_lines plan last.rec in
    let f = c.in_ok-put_last_forest-in-Rstp.ensures.text in
    let text = front ++ trees ++ f.0 in
    let forest = subst (λ r. IsForestText plan (last_shape plan r) f.0) c.in_ok-tallies-in-Rstp.ensures.record f.2 in
    let fits = rest_in c.args.ticks 1000000000 convergence plan.spanning c.args.net last
    (ap (λ p. p.spanning) c.requires.plan) c.in_ok-convergence.ensures.ok in (
      text,
      join_three (string_bytes c.args.out.now) front trees f.0 (string_bytes c.put_convergence.new.out)
          (string_bytes c.put_protocol.new.out) (string_bytes c.put_last_forest.new.out)
          c.in_ok-put_convergence-in-Rstp.ensures c.in_ok-put_protocol-in-Rstp.ensures f.1,
      record {
        last = last;
        convergence = convergence;
        ends = c.in_ok-convergence.ensures.ok;
        planned = c.converge.ensures.plan;
        lawful = lawful_end plan last c.in_ok-tallies-in-Rstp.tallies c.converge.ensures.plan
            c.in_ok-tallies-in-Rstp.ensures.record
            c.in_ok-tallies-in-Rstp.ensures.lawful;
        enough = subst HasEnoughMemory c.in_ok-tallies-in-Rstp.ensures.record
            c.in_ok-put_last_forest-in-Rstp.ensures.enough;
        trees = protocol_tree plan last.rec plan.spanning convergence text fits c.in-Rstp.is
            (record { forest = f.0; is_forest = forest; text_is = refl });
      },
    )
