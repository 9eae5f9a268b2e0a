use Rattle.std.proofs.Common.{◌≡◌, ◌∷◌, [], ap, sym, ◌∙◌, append_assoc}
use Rattle.std.specs.Fmt.{decimal}
use Rattle.pb_frame.specs.Admission.{same}
use Rattle.pb_names.specs.Names.{bridge_name}
use Rattle.pb_converge.specs.Falls.{end_name}
use Rattle.pb_cmd_draw.proofs.failures.is_named.Goals as goal

pub returns : goal.returns
returns c =
    let told : c.as_str.result.now ≡ end_name c.args.plan.now c.args.end.now = c.as_str.ensures.value
    ∙ (rw c.bridge_name-bridge.ensures at c.in_ok-text.ensures.ok)
    ∙ sym (append_assoc (bridge_name c.args.plan.now c.args.end.now.bridge) (58 ∷ []) (decimal c.args.end.now.port)) in
    c.eq.ensures ∙ ap (λ t. same c.args.name.now t) told
