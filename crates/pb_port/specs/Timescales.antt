-- The times of frames in captures.
use Rattle.std.specs.Prelude.{ℕ, ◌+◌, ◌*◌}
use Rattle.pb_port.specs.declared.timescale.Timescale.{Timescale}

-- the microseconds after so many ticks
abbrev pub micros_at : Timescale → ℕ → ℕ
micros_at scale ticks = scale.start + scale.tick * ticks
