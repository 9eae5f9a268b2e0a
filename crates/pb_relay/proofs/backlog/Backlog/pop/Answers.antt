use Rattle.std.proofs.Common.{set, ap, sym, ◌∙◌}
use Rattle.std.proofs.lemmas.List.{set-get_or}
use Rattle.pb_relay.proofs.ClassLemmas.{none_taken}
use Rattle.pb_relay.proofs.backlog.Backlog.pop.Goals as goal

-- if nothing waits, nothing is taken away
pub invariant_of-self : goal.invariant_of-self
invariant_of-self c =
    let items = c.self.inside.queues.items in
    let q = c.index_mut.result.now in
    let same = ap (set items c.args.place)
    (c.pop.ensures.rest ∙ none_taken q (sym c.in_err-item.ensures.first) ∙ c.index_mut.ensures.value)
    ∙ set-get_or items c.args.place q in
    (c.self.invariant.0, λ kept. c.self.invariant.1 kept ∙ sym same)
