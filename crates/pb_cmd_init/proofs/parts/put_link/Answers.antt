use Rattle.std.proofs.Common.{◌≡◌, ◌∙◌, ◌++◌, ap, append_assoc, string_bytes}
use Rattle.pb_cmd_init.specs.PlanTexts.{ends_text}
use Rattle.pb_cmd_init.specs.Topologies.{ends_of}
use Rattle.pb_cmd_init.proofs.parts.put_link.Goals as goal

pub returns : goal.returns
returns c =
    let old = string_bytes c.args.out.now in
    let link = c.args.link in
    let keys = c.link_keys-further.result.now in
    let told : string_bytes c.write.new.self ≡ old ++ (ends_text link c.ends-a.result ++ keys)
    = c.in_ok-write.ensures.bytes ∙ simp append_assoc in
    told ∙ ap (λ ends. old ++ (ends_text link ends ++ keys)) c.ends-a.ensures
    ∙ ap (λ further. old ++ (ends_text link (ends_of c.args.topology link) ++ further)) c.link_keys-further.ensures
