use Rattle.std.proofs.Common.{◌∷◌, ◌++◌, [], map, set, ap, sym, ◌∙◌}
use Rattle.std.proofs.lemmas.List.{length-map}
use Rattle.std.specs.Option.{option_to_list}
use Rattle.pb_relay.proofs.OwnLemmas.{set_own}
use Rattle.pb_relay.proofs.queues.PortQueues.replace_own.Goals as goal

pub returns-clause-queued : goal.returns-clause-queued
returns-clause-queued c =
    let qs = map (λ q. q.items) c.self.inside.classes.items in
    let own = option_to_list c.self.inside.own in
    sym (set_own qs own (c.args.item ∷ []))
    ∙ ap (λ k. set (qs ++ own ∷ []) k (c.args.item ∷ []))
    (length-map c.self.inside.classes.items (λ q. q.items) ∙ c.self.invariant.0)
    ∙ ap (λ z. set z 8 (c.args.item ∷ [])) c.self.view_is
