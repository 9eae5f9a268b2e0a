use Rattle.std.proofs.Common.{◌≡◌, ◌∙◌, ◌++◌, ap, append_assoc, string_bytes}
use Rattle.pb_cmd_init.specs.PlanTexts.{bridge_table}
use Rattle.pb_cmd_init.proofs.parts.put_bridge.Goals as goal

pub returns : goal.returns
returns c =
    let start = string_bytes c.args.out.now in
    let table = bridge_table c.args.bridge in
    let written = rw c.in_ok-address.ensures at c.in_ok-write.ensures.bytes in
    let told : string_bytes c.write.new.self ≡ start ++ (table ++ c.bridge_keys-further.result.now) = written
    ∙ simp append_assoc in
    told ∙ ap (λ further. start ++ (table ++ further)) c.bridge_keys-further.ensures
