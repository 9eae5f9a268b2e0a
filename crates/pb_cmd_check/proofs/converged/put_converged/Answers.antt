use Rattle.std.proofs.Common.{◌≡◌, ◌++◌, codes, string_bytes, refl, ap, subst, ◌∙◌}
use Rattle.pb_frame.proofs.TextLemmas.{with_piece}
use Rattle.pb_converge.specs.Drives.{EndsAs}
use Rattle.pb_converge.specs.Enough.{HasEnoughMemory}
use Rattle.pb_converge.specs.Convergences.{convergence_line}
use Rattle.pb_lan.specs.LastShapes.{last_shape}
use Rattle.pb_report.specs.ForestTexts.{IsForestText}
use Rattle.pb_cmd_check.proofs.converged.put_converged.Goals as goal

pub returns : goal.returns
returns c =
    let plan = c.args.plan.now in
    let old = string_bytes c.args.out.now in
    let pushed = string_bytes c.push_str.new.self in
    let convergence = c.in_ok-convergence.convergence in
    let last = c.convergence_of.new.net in
    let line = convergence_line convergence in
    let word = codes "converged " in
    let f = c.in_ok-put_forest.ensures in
    let front : pushed ≡ old ++ (line ++ word) =
    with_piece old (string_bytes c.put_convergence.new.out) pushed line word
    c.in_ok-put_convergence.ensures c.in_ok-push_str.ensures.bytes in
    let shape = c.in_ok-shape.ensures.shape ∙ ap (last_shape plan) c.in_ok-tallies.ensures.record in (
      line ++ word ++ f.0,
      with_piece old pushed (string_bytes c.put_forest.new.out) (line ++ word) f.0 front f.1,
      record {
        last = last;
        convergence = convergence;
        ends = subst (λ net. EndsAs c.args.ticks 1000000000 convergence net last) c.in_ok-net.ensures
            c.in_ok-convergence.ensures.ok;
        enough = subst HasEnoughMemory c.in_ok-tallies.ensures.record c.in_ok-shape.ensures.enough;
        forest = f.0;
        is_forest = subst (λ s. IsForestText plan s f.0) shape f.2;
        text_is = refl;
      },
    )
