use Rattle.std.proofs.Common.{◌∷◌, ◌++◌, [], sym, subst}
use Rattle.pb_history.proofs.CountLemmas.{counted}
use Rattle.pb_history.specs.CountLists.{AreCounts}
use Rattle.pb_history.proofs.port_counts.PortCounts.note.Goals as goal

pub invariant_of-self : goal.invariant_of-self
invariant_of-self c =
    let before = c.self.inside in
    let noted = before.noted.items ++ (c.args.port, c.args.cause) ∷ [] in
    subst (λ ns. AreCounts ns c.count_one.new.counts) (sym c.note.ensures)
    (subst (λ cs. AreCounts noted cs) (sym c.count_one.ensures.one)
    (counted before.noted.items before.counts c.args.port c.args.cause c.count_one.ensures.places
    c.self.invariant))
