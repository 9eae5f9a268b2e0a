use Rattle.std.proofs.Common.{◌≤◌, ◌∙◌, ◌++◌, ap, string_bytes}
use Rattle.std.proofs.lemmas.Result.{err_from_is_err_and}
use Rattle.pb_run_losses.specs.Drops.{is_between, port_drops}
use Rattle.pb_run_losses.proofs.LineLemmas.{no_text, numbers_end}
use Rattle.pb_frame.proofs.TextLemmas.{numbers_more}
use Rattle.pb_run_losses.proofs.drops.put_bridge.Goals as goal

pub loop-port-preserved : goal.loop-port-preserved
loop-port-preserved c =
    let name = c.args.name.now in
    let steps = c.args.tally.now in
    let port = c.loop-port.port in
    let late = c.args.choice.late in
    let lost = c.args.choice.lost in
    let old = string_bytes c.loop-port.out in
    let put = c.in_ok-put_port.ensures
    ∙ ap (λ between. old ++ port_drops name port steps between late lost) c.is_between.ensures in
    numbers_more (λ p. port_drops name p steps (is_between c.args.plan.now c.args.number p) late lost) port port 17 old
    _ _ c.loop-port-test.true put c.loop-port.invariant

pub returns-in_err-put_port : goal.returns-in_err-put_port
returns-in_err-put_port c = no_text _ c.from_residual.result _ (err_from_is_err_and c.from_residual.result
    c.from_residual.ensures.1).1

pub returns : goal.returns
returns c =
    numbers_end (λ p. port_drops c.args.name.now p c.args.tally.now (is_between c.args.plan.now c.args.number p)
    c.args.choice.late c.args.choice.lost) c.loop-port.port c.loop-port.port 17 (string_bytes c.loop-port.out) _
    c.loop-port-test.false c.loop-port.invariant
