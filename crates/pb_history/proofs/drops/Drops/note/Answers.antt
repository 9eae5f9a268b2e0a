use Rattle.std.proofs.Common.{◌≡◌, None, ◌∙◌, sym, rules}
use Rattle.pb_history.proofs.StepLemmas.{drops_more, drops_none}
use Rattle.pb_history.proofs.drops.Drops.note.Goals as goal
use Rattle.pb_history.proofs.drops.Drops.note.Goals.{in-Some, in_default}

pub invariant_of-self : goal.invariant_of-self
invariant_of-self c =
    let steps = c.self.inside.past.items in
    let step = c.args.step.now in
    elim c.match-place_of.branch [
      | in-Some w ↦
          let more = drops_more steps step c.self.inside.counts w.in-Some.place c.self.told c.self.invariant
          (sym c.place_of.ensures ∙ w.in-Some.is) in
          rw (c.note.ensures, w.self-inside-is, w.count_one.ensures.one) more
      | in_default w ↦
          let none : c.place_of.result ≡ None = search rules in
          rw (c.note.ensures, w.self-inside-is) (drops_none steps step c.self.inside.counts c.self.invariant
          (sym c.place_of.ensures ∙ none))
    ]
