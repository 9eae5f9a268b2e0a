-- What the mode of a run says of its record.
use Rattle.std.specs.Prelude.{◌≡◌, Bool, true, false}
use Rattle.pb_lan.specs.Laws.{NoPortIsSet}
use Rattle.pb_lan.specs.declared.record.Record.{Record}
use Rattle.pb_workers.specs.Lossless.{NoFullQueueRefuses}

-- no port is set unless bridges may set ports, and no full queue refuses a copy if bridges wait
pub record FollowsMode (sets waits : Bool) (counts : Record) : Type 0 where
  pub unset : sets ≡ false → NoPortIsSet counts
  pub whole : waits ≡ true → NoFullQueueRefuses counts
