use Rattle.std.proofs.Common.{◌||◌, ◌&&◌, ◌∙◌, sym, ap}
use Rattle.std.specs.List.{list_any}
use Rattle.pb_history.proofs.StepLemmas.{any_more, late_more}
use Rattle.pb_history.specs.Late.{is_receipt, changes_state, changes_late}
use Rattle.pb_history.proofs.late.Late.note.Goals as goal

pub invariant_of-self : goal.invariant_of-self
invariant_of-self c =
    let steps = c.self.inside.past.items in
    let step = c.args.step.now in
    let before = c.self.invariant in
    let seen = c.either-self-inside.ensures ∙ ap (λ b. b || c.is_receipt.result) before.receipts
    ∙ ap (λ b. list_any is_receipt steps || b) c.is_receipt.ensures in
    let late = c.either-self-inside-2.ensures ∙ ap (λ b. b || c.both.result) before.changes
    ∙ ap (λ b. changes_late steps || b) (c.both.ensures ∙ ap (λ b. b && c.changes_state.result) seen
    ∙ ap (λ b. (list_any is_receipt steps || is_receipt step) && b) c.changes_state.ensures) in
    rw (c.note.ensures) (record {
      receipts = seen ∙ sym (any_more is_receipt steps step);
      changes = late ∙ sym (late_more step steps);
    })
