use Rattle.std.proofs.Common.{◌≡◌, ◌∙◌, ◌++◌, append_assoc, string_bytes}
use Rattle.pb_cmd_init.specs.PlanTexts.{port_table}
use Rattle.pb_cmd_init.proofs.ports.put_port.Goals as goal

pub returns : goal.returns
returns c =
    let old = string_bytes c.args.out.now in
    let site = c.args.site in
    let told : string_bytes c.write.new.self ≡ old
    ++ (port_table site c.name_end-end.result.now c.site_bridge-bridge.result c.service_port-port.result
    c.service_name-name.result.now ++ c.further_keys-further.result.now)
    = c.in_ok-write.ensures.bytes ∙ simp append_assoc in
    rw (
      c.name_end-end.ensures,
      c.site_bridge-bridge.ensures,
      c.service_port-port.ensures,
      c.service_name-name.ensures,
      c.further_keys-further.ensures,
    ) at told
