use Rattle.std.proofs.Common.{◌≡◌, [], ◌∷◌, Option, Bor, option_to_list, option_copied, sym, ap, subst, ◌∙◌, rules}
use Rattle.pb_lan.specs.Shapes.{moved_of}
use Rattle.pb_lan.specs.declared.step.Moved.{Moved}
use Rattle.pb_history.proofs.StepLemmas.{newest_more, newest_none}
use Rattle.pb_history.specs.Newest.{HaveSet}
use Rattle.pb_history.proofs.newest.Newest.note.Goals as goal
use Rattle.pb_history.proofs.newest.Newest.note.Goals.{in-Some, in_default}

pub invariant_of-self : goal.invariant_of-self
invariant_of-self c =
    let steps = c.self.inside.past.items in
    let step = c.args.step.now in
    elim c.match-moved_by.branch [
      | in-Some w ↦
          let by : moved_of step ≡ w.in-Some.moved.now ∷ [] = sym c.moved_by.ensures
          ∙ ap (λ (o : Option (Bor Moved)). option_to_list (option_copied o)) w.in-Some.is in
          let set = subst (λ changes. HaveSet c.self.inside.states w.set_all.new.states changes) w.as_slice.ensures
          w.set_all.ensures in
          rw (c.note.ensures, w.self-inside-is)
          (newest_more steps step c.self.inside.states w.set_all.new.states w.in-Some.moved.now by set
          c.self.invariant)
      | in_default w ↦
          let none : moved_of step ≡ [] = search rules in
          rw (c.note.ensures, w.self-inside-is) (newest_none steps step c.self.inside.states none c.self.invariant)
    ]
