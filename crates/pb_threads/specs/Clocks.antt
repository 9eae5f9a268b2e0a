-- The clocks of workers.
use Rattle.std.specs.Prelude.{ℕ, ◌+◌, nat_lt, if◌then◌else◌}

-- the time of the next tick: that of the last one and the time between ticks, unless this is over. Then the ticks that
-- were missed are let go
abbrev pub due_after : ℕ → ℕ → ℕ → ℕ
due_after due now every = if nat_lt (due + every) now then now + every else due + every
