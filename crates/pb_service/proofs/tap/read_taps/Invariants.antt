use Rattle.std.proofs.Common.{take, map}
use Rattle.std.specs.List.{AllZip}
use Rattle.toml.specs.View.{table_view}
use Rattle.pb_service.specs.Formats.{tap_keys}
use Rattle.pb_service.specs.Tables.{IsRead}
use Rattle.pb_service.specs.Taps.{IsTapOf}
use Rattle.pb_service.proofs.tap.read_taps.Given as goal

abbrev pub invariant-loop-index : goal.invariant-loop-index
invariant-loop-index l = record {
  read : AllZip (λ r x. IsRead (IsTapOf (map (λ n. n.now) l.links) l.fn.limits) tap_keys (table_view r.now) x)
      (take l.index l.rows) l.taps.items;
}
