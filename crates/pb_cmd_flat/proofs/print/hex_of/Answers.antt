use Rattle.std.proofs.Common.{◌∙◌, arith}
use Rattle.pb_cmd_flat.proofs.HexTexts.{same_text}
use Rattle.pb_cmd_flat.proofs.print.hex_of.Goals as goal

pub returns : goal.returns
returns c = c.in_ok-encode.ensures ∙ same_text c.args.octets.now (λ k h. omega (arith, c.type_inv.octets k))
