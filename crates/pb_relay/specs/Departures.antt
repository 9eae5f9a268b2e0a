-- The departure of an item from a bridge.
use Rattle.std.specs.Prelude.{Bool, Some, None, if◌then◌else◌}
use Rattle.std.specs.declared.option.Option.{Option}
use Rattle.pb_lan.specs.declared.step.Item.{Item}
use Rattle.pb_relay.specs.declared.departure.Departure.{Departure}

-- the copy of an item if steps are kept
abbrev pub copy_of : Bool → Item → Option Item
copy_of is_kept item = if is_kept then Some item else None

-- the item that leaves, if there is one, with its copy
abbrev pub departure : Bool → Option Item → Option Departure
departure is_kept None = None
departure is_kept (Some item) = Some (record { item = item; copy = copy_of is_kept item })
