use Rattle.std.proofs.Common.{◌≡◌, None, ◌∙◌, sym, rules}
use Rattle.pb_history.proofs.StepLemmas.{filtered_more, filtered_none}
use Rattle.pb_history.proofs.filtered.Filtered.note.Goals as goal
use Rattle.pb_history.proofs.filtered.Filtered.note.Goals.{in-Some, in_default}

pub invariant_of-self : goal.invariant_of-self
invariant_of-self c =
    let steps = c.self.inside.past.items in
    let step = c.args.step.now in
    elim c.match-filtered_by.branch [
      | in-Some w ↦
          let more = filtered_more steps step c.self.inside.counts w.in-Some.port c.self.told c.self.invariant
          (sym c.filtered_by.ensures ∙ w.in-Some.is) in
          rw (c.note.ensures, w.self-inside-is, w.count_one.ensures.one) more
      | in_default w ↦
          let none : c.filtered_by.result ≡ None = search rules in
          rw (c.note.ensures, w.self-inside-is) (filtered_none steps step c.self.inside.counts c.self.invariant
          (sym c.filtered_by.ensures ∙ none))
    ]
