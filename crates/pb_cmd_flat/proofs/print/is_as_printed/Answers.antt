use Rattle.std.proofs.Common.{◌≡◌, false, true, not, sym, rules}
use Rattle.std.specs.List.{list_any}
use Rattle.pb_frame.specs.Hex.{is_upper}
use Rattle.pb_frame.specs.Tags.{bare}
use Rattle.pb_frame.proofs.HexLemmas.{hex_text_of}
use Rattle.pb_cmd_flat.proofs.print.is_as_printed.Goals as goal

pub returns-then-not-has_priority_tag : goal.returns-then-not-has_priority_tag
returns-then-not-has_priority_tag c = λ (e : not c.has_upper_case.result ≡ true).
    let none : list_any is_upper c.args.digits.now ≡ false = search rules in
    let whole : bare c.args.wire.now ≡ c.args.wire.now = search rules in
    rw whole (sym (hex_text_of c.args.digits.now c.args.wire.now c.requires none))
