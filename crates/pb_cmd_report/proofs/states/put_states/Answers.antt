use Rattle.std.proofs.Common.{codes, string_bytes}
use Rattle.pb_names.proofs.TextLemmas.{join_three}
use Rattle.pb_cmd_report.specs.States.{letters_of}
use Rattle.pb_cmd_report.proofs.states.put_states.Goals as goal

pub returns : goal.returns
returns c =
    let plan = c.args.plan.now in
    join_three (string_bytes c.args.out.now) (codes " data-states=\"")
    (letters_of plan c.args.shape.now c.args.failure 1 plan.links) (codes "\"")
    (string_bytes c.push_str.new.self) (string_bytes c.put_letters.new.out) (string_bytes c.push_str-2.new.self)
    c.in_ok-push_str.ensures.bytes c.in_ok-put_letters.ensures c.in_ok-push_str-2.ensures.bytes
