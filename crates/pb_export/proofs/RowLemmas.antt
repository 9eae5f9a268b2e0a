-- Slots that are filled one after the other.
use Rattle.std.proofs.Common.{◌≡◌, ℕ, ◌+◌, ◌<◌, List, [], ◌∷◌, ◌++◌, length, take, get_or, ap, ◌∙◌}
use Rattle.std.proofs.lemmas.List.{take_more, map_push}
use Rattle.std.proofs.lemmas.List.Elements.{All-push}
use Rattle.pb_export.specs.Rows.{Fits, IsFilled, AreFilled}
use Rattle.pb_export.specs.declared.templates.Slot.{Slot}
use Rattle.pb_export.specs.declared.rows.Filled.{Filled}

-- one more filled slot, for the loop of fields_of
pub filled_more : (slots : List Slot) (fields new : List Filled) (i : ℕ) (d : Slot) (f : Filled) → i < length slots
    → AreFilled (take i slots) fields
    → IsFilled (get_or slots i d) f → new ≡ fields ++ f ∷ [] → AreFilled (take (i + 1) slots) new
filled_more slots fields new i d f below are is grown = rw (grown, take_more slots i d below) (record {
  slots_are = map_push (λ g. g.slot) fields f ∙ ap (λ z. z ++ f.slot ∷ []) are.slots_are
      ∙ ap (λ s. take i slots ++ s ∷ []) is.slot_is;
  fit = All-push (λ (g : Filled). Fits g.slot.kind g.field) fields f are.fit (rw is.slot_is is.fits);
})
