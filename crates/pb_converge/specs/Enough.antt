-- Records in which no allocation failed.
use Rattle.std.specs.Prelude.{◌≡◌, false}
use Rattle.std.specs.List.{list_any}
use Rattle.pb_history.specs.Memory.{lacks_memory}
use Rattle.pb_lan.specs.declared.record.Record.{Record}

-- no allocation failed in a step of a bridge
abbrev pub HasEnoughMemory : Record → Type 0
HasEnoughMemory rec = list_any (list_any lacks_memory) rec.bridges ≡ false
