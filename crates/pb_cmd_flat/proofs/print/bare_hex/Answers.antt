use Rattle.std.proofs.Common.{take, drop, arith}
use Rattle.std.proofs.lemmas.List.{take_rest}
use Rattle.pb_cmd_flat.proofs.HexTexts.{hex_text-append}
use Rattle.pb_cmd_flat.proofs.print.bare_hex.Goals as goal

pub returns : goal.returns
returns c =
    let w = c.args.wire.now in
    let e = hex_text-append (take 12 w) (drop 16 w) in
    let s = take_rest w 16 in
    grind (arith, e, s)
