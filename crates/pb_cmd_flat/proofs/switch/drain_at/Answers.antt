use Rattle.std.proofs.Common.{◌∙◌, ap, arith}
use Rattle.pb_lan.specs.declared.step.Step.TheVariants.{Transmit}
use Rattle.pb_relay.specs.Standing.{BridgeView, with_step}
use Rattle.pb_cmd_flat.specs.Quiet.HasDrained.{one}
use Rattle.pb_cmd_flat.proofs.switch.drain_at.Goals as goal

pub returns-clause-ok : goal.returns-clause-ok
returns-clause-ok c =
    one c.pop_out.result (omega (arith, c.waiting.ensures, c.if-waiting-eq0.false))
    (c.pop_out.ensures.step ∙ ap (λ (b : BridgeView). with_step b (Transmit c.args.port c.pop_out.result))
    c.in_default.ensures.ok)
