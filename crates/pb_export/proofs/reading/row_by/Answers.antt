use Rattle.std.proofs.Common.{◌≡◌, sym, subst, ◌∙◌}
use Rattle.std.proofs.lemmas.Bool.{false≢true}
use Rattle.std.proofs.lemmas.List.{append_cancel_left}
use Rattle.pb_export.specs.Fitting.{FitSlots}
use Rattle.pb_export.proofs.reading.row_by.Goals as goal

pub returns-in-None-clause-whole : goal.returns-in-None-clause-whole
returns-in-None-clause-whole c =
    let template = c.args.template.now in
    let rest = c.in-Some.rest.now in
    let slots = rw c.in-None.is at c.in_ok-fields.ensures.whole in (
      λ e. absurd (false≢true e),
      λ fits. slots.1 (subst (FitSlots template.slots.now)
          (append_cancel_left template.lead.now fits.0 rest (sym fits.1 ∙ c.in-Some.ensures)) fits.2),
    )
