-- The departure of an item from a bridge.
use Rattle.std.proofs.Common.{◌≡◌, Bool, Some, None, refl, sym, ap, ◌∙◌}
use Rattle.std.specs.declared.option.Option.{Option}
use Rattle.pb_lan.specs.declared.step.Item.{Item}
use Rattle.pb_relay.specs.Departures.{copy_of, departure}
use Rattle.pb_relay.specs.declared.departure.Departure.{Departure}

-- the item that leaves is the next one, with its copy
pub departs : (is_kept : Bool) (next : Option Item) (d : Departure) → Some d ≡ departure is_kept next
    → (Some d.item ≡ next) × (d.copy ≡ copy_of is_kept d.item)
departs is_kept None d e = cc
departs is_kept (Some item) d e =
    let same : d ≡ record { item = item; copy = copy_of is_kept item } = cc in (
      ap (λ (z : Departure). Some z.item) same,
      ap (λ (z : Departure). z.copy) same
          ∙ ap (λ (z : Departure). copy_of is_kept z.item) (sym same),
    )

-- no item leaves only if there is no next one
pub none_departs : (is_kept : Bool) (next : Option Item) → departure is_kept next ≡ None → next ≡ None
none_departs is_kept None e = refl
none_departs is_kept (Some item) e = cc
