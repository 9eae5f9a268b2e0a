use Rattle.std.proofs.Common.{◌∙◌, ◌++◌, ap, string_bytes}
use Rattle.pb_cmd_init.specs.PlanTexts.{head_text, keys_text, further_text, places_text}
use Rattle.pb_frame.proofs.TextLemmas.{with_piece}
use Rattle.pb_cmd_init.proofs.texts.put_head.Goals as goal

pub returns : goal.returns
returns c =
    let old = string_bytes c.args.out.now in
    let head = string_bytes c.push_str.new.self in
    let keys = string_bytes c.push_str-2.new.self in
    let further = string_bytes c.push_str-3.new.self in
    let topology = c.args.topology in
    let put = with_piece old head keys head_text (keys_text topology) c.in_ok-push_str.ensures.bytes
    (c.in_ok-push_str-2.ensures.bytes ∙ ap (λ t. head ++ t) c.keys_of.ensures) in
    let put_further = with_piece old keys further _ further_text put c.in_ok-push_str-3.ensures.bytes in
    with_piece old further (string_bytes c.push_str-4.new.self) _ places_text put_further
    c.in_ok-push_str-4.ensures.bytes
