use Rattle.std.proofs.Common.{◌+◌, string_bytes}
use Rattle.pb_cmd_init.specs.PlanTexts.{needs_text, capture_text, socket_text}
use Rattle.pb_frame.proofs.TextLemmas.{with_piece, last_piece}
use Rattle.pb_cmd_init.proofs.texts.put_kinds.Goals as goal

pub returns : goal.returns
returns c =
    let old = string_bytes c.args.out.now in
    let mid = string_bytes c.put_capture.new.out in
    let bridge = c.args.bridge in
    let services = c.args.services in
    let capture = with_piece old (string_bytes c.push_str.new.self) mid needs_text
    (capture_text bridge (services + 3)) c.in_ok-push_str.ensures.bytes c.in_ok-put_capture.ensures in
    last_piece c.put_socket.result old mid (string_bytes c.put_socket.new.out) _ (socket_text bridge (services + 4))
    capture c.put_socket.ensures
