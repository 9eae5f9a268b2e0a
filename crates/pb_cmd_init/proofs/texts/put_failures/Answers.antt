use Rattle.std.proofs.Common.{◌∙◌, ◌++◌, ap, string_bytes}
use Rattle.pb_cmd_init.proofs.texts.put_failures.Goals as goal

pub returns : goal.returns
returns c =
    c.in_ok-push_str.ensures.bytes ∙ ap (λ t. string_bytes c.args.out.now ++ t) c.failures_of.ensures
