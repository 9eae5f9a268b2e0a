use Rattle.std.proofs.Common.{◌∙◌, append_assoc}
use Rattle.pb_cmd_init.proofs.services.put_service.Goals as goal

pub returns : goal.returns
returns c =
    let told = rw (c.service_name-name.ensures, c.service_vid-vid.ensures) at c.in_ok-write.ensures.bytes in
    told ∙ simp append_assoc
