use Rattle.std.proofs.Common.{◌≡◌, string_bytes, subst, ap, ◌∙◌}
use Rattle.pb_frame.specs.Hex.{IsHex}
use Rattle.pb_names.specs.Numbers.{port_named}
use Rattle.pb_cmd_trace.specs.Stories.{AnswersFrame, sent}
use Rattle.std.proofs.lemmas.Result.{IfOk-weaker}
use Rattle.pb_cmd_trace.proofs.journey.trace_entry.Goals as goal

pub returns-in-Some-clause-ok : goal.returns-in-Some-clause-ok
returns-in-Some-clause-ok c =
    let plan = c.args.plan.now in
    let entry = c.args.entry.now in
    let frame = c.in-Some.frame in
    let digits = rw c.in-Some.is at c.in_ok-frame.ensures.some in
    let filled = rw c.in-Some.is at c.in_ok-frame.ensures.filled in
    let hex : IsHex (string_bytes entry.hex) frame = subst (λ t. IsHex t frame) c.as_bytes.ensures.value digits in
    let port : c.port_named-port.result ≡ port_named plan (string_bytes entry.port) = c.port_named-port.ensures
    ∙ ap (λ t. port_named plan t) c.as_str.ensures.value in
    IfOk-weaker c.trace_frame.result _ _
    (λ fate f. (
      f.0,
      f.1,
      sent frame (hex, filled)
          (subst (λ p. AnswersFrame plan p frame fate c.args.net.now c.trace_frame.new.net f.0) port f.2),
    ))
    c.trace_frame.ensures.ok
