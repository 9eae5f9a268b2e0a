use Rattle.std.proofs.Common.{ap, sym, ◌∙◌}
use Rattle.pb_relay.specs.Classes.{without_last}
use Rattle.pb_relay.proofs.ClassLemmas.{taken_back}
use Rattle.pb_relay.proofs.backlog.push_twice.Goals as goal

pub returns-in-Err-clause-err : goal.returns-in-Err-clause-err
returns-in-Err-clause-err c =
    c.take_back.ensures ∙ ap (without_last c.args.class) c.in_ok-push.ensures.ok
    ∙ taken_back c.args.queues.now c.args.class c.args.item

pub returns-in-Err-clause-copies : goal.returns-in-Err-clause-copies
returns-in-Err-clause-copies c =
    c.in-Err.ensures.err ∙ c.requires.copies
    ∙ sym (c.take_back.ensures ∙ ap (without_last c.args.class) c.in_ok-push.ensures.ok
    ∙ taken_back c.args.queues.now c.args.class c.args.item)
