use Rattle.std.proofs.Common.{◌<◌, [], List, length, get_or, ap, sym, ◌∙◌, subst, arith}
use Rattle.pb_lan.specs.declared.step.Item.{Item}
use Rattle.pb_relay.specs.Backlogs.{BacklogView, is_full_at}
use Rattle.pb_relay.proofs.ClassLemmas.{here_at, room_left}
use Rattle.pb_relay.proofs.backlog.Backlog.enqueue.Goals as goal

pub push_twice-requires-clause-room : goal.push_twice-requires-clause-room
push_twice-requires-clause-room c =
    subst (λ (q : List (List Item)). length (get_or q c.args.class []) < 4096)
    (here_at c.self.inside.queues.items c.args.place c.index_mut-queues.result.now
    (omega (arith, c.requires.place, ap (λ (v : BacklogView). length v.ports) c.self.view_is))
    c.index_mut-queues.ensures.value)
    (room_left c.self.inside.capacity c.args.class (get_or c.self.inside.queues.items c.args.place [])
    c.self.invariant.0 c.requires.class
    (ap (λ (v : BacklogView). is_full_at v c.args.place c.args.class) c.self.view_is
    ∙ sym c.is_full.ensures ∙ c.if-is_full.false))

pub push-requires-clause-room : goal.push-requires-clause-room
push-requires-clause-room c =
    subst (λ (q : List (List Item)). length (get_or q c.args.class []) < 4096)
    (here_at c.self.inside.queues.items c.args.place c.index_mut-queues.result.now
    (omega (arith, c.requires.place, ap (λ (v : BacklogView). length v.ports) c.self.view_is))
    c.index_mut-queues.ensures.value)
    (room_left c.self.inside.capacity c.args.class (get_or c.self.inside.queues.items c.args.place [])
    c.self.invariant.0 c.requires.class
    (ap (λ (v : BacklogView). is_full_at v c.args.place c.args.class) c.self.view_is
    ∙ sym c.is_full.ensures ∙ c.if-is_full.false))
