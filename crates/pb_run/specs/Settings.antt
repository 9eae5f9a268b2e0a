-- The ports that were enabled and disabled during a run.
use Rattle.std.specs.Prelude.{ℕ}
use Rattle.pb_lan.specs.Records.{steps_of}
use Rattle.pb_lan.specs.declared.record.Record.{Record}
use Rattle.pb_lan.specs.declared.step.Place.TheVariants.{Bridge}
use Rattle.pb_threads.specs.Wishes.{Giving, AreGiven}
use Rattle.pb_workers.specs.Settings.{settings}

-- the settings of each bridge's ports are wishes that the gate gave for this bridge, in order
abbrev pub AreWished : Giving → Record → Type 0
AreWished gives counts = (number : ℕ) → AreGiven (gives (Bridge number)) (settings (steps_of counts.bridges number))
