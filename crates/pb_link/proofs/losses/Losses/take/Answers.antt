use Rattle.std.proofs.Common.{◌==◌, ◌∙◌, ap}
use Rattle.std.specs.List.{list_any}
use Rattle.pb_link.specs.Losses.{LossView}
use Rattle.pb_link.proofs.LossLemmas.{next-more, lost_is}
use Rattle.pb_link.proofs.losses.Losses.take.Goals as goal

pub invariant_of-self : goal.invariant_of-self
invariant_of-self c =
    let s = c.self.inside in
    rw (c.after_item-self-inside.ensures, c.is_next-is_lost.ensures.first, c.as_slice.ensures)
    (next-more s.numbers s.next s.taken c.self.invariant)

pub returns-clause-lost : goal.returns-clause-lost
returns-clause-lost c =
    let s = c.self.inside in
    rw (c.is_next-is_lost.ensures.first, c.as_slice.ensures)
    (lost_is s.numbers s.next s.taken c.self.invariant ∙ ap (λ (v : LossView). list_any (λ k. k == v.taken) v.numbers)
    c.self.view_is)
