-- Customers' frames that a run left in its network.
use Rattle.std.specs.Prelude.{◌≤◌, ◌+◌, ◌-◌, ℕ, List, [], ◌∷◌, ◌++◌, codes, length, ◌==◌, if◌then◌else◌}
use Rattle.std.specs.Fmt.{decimal}
use Rattle.pb_forest.specs.Draining.{gains, losses}
use Rattle.pb_lan.specs.declared.record.Record.{Record}

-- the customers' frames that all places remove
abbrev pub all_losses : Record → ℕ
all_losses rec = losses rec.bridges + losses rec.lanes + losses rec.customers

-- the customers' frames that entered or were copied, less those that were received, lost or delivered
abbrev pub in_transit : Record → ℕ
in_transit rec = gains rec.bridges + gains rec.lanes + gains rec.customers - all_losses rec

-- the record has no more places of a kind than a sound plan can have
pub record HasFewPlaces (rec : Record) : Type 0 where
  pub bridges : length rec.bridges ≤ 128
  pub lanes : length rec.lanes ≤ 128
  pub customers : length rec.customers ≤ 128

-- the line of this count; a count of 0 has none
abbrev pub transit_line : ℕ → List ℕ
transit_line count = if count == 0 then [] else codes "frames in transit: " ++ decimal count ++ 10 ∷ []
