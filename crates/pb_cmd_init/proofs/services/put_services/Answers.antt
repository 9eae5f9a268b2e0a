use Rattle.std.proofs.Common.{flat_map, string_bytes}
use Rattle.std.specs.List.{range_with_len}
use Rattle.pb_cmd_init.specs.PlanTexts.{services_head, service_text, ports_head}
use Rattle.pb_frame.proofs.TextLemmas.{with_piece}
use Rattle.pb_cmd_init.proofs.services.put_services.Goals as goal

pub returns : goal.returns
returns c =
    let old = string_bytes c.args.out.now in
    let tables = string_bytes c.put_tables.new.out in
    let put = with_piece old (string_bytes c.push_str.new.self) tables services_head
    (flat_map service_text (range_with_len 1 c.args.services)) c.in_ok-push_str.ensures.bytes
    c.in_ok-put_tables.ensures in
    with_piece old tables (string_bytes c.push_str-2.new.self) _ ports_head put c.in_ok-push_str-2.ensures.bytes
