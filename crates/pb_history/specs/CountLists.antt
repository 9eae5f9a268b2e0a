-- Counts of losses.
use Rattle.std.specs.Prelude.{◌≡◌, ℕ, ◌+◌, ◌<◌, List, slice_index_or, slice_set}
use Rattle.pb_lan.specs.declared.step.NoRoom.{NoRoom}
use Rattle.pb_lan.specs.declared.step.NoRoom.TheVariants.{Full, Memory}
use Rattle.pb_history.specs.Losses.{counts_at}
use Rattle.pb_history.specs.declared.cause_counts.CauseCounts.{CauseCounts}

abbrev pub no_counts : CauseCounts
no_counts = record { full = 0; memory = 0 }

-- the counts with one more loss of this cause
abbrev pub one_more : CauseCounts → NoRoom → CauseCounts
one_more counts Full = record counts { full = counts.full + 1 }
one_more counts Memory = record counts { memory = counts.memory + 1 }

-- the losses of this cause
abbrev pub count_of : CauseCounts → NoRoom → ℕ
count_of counts Full = counts.full
count_of counts Memory = counts.memory

-- one more loss at this port, if there is such a port
abbrev pub one_more_at : List CauseCounts → ℕ → NoRoom → List CauseCounts
one_more_at counts port cause = slice_set counts port (one_more (slice_index_or counts port no_counts) cause)

-- the counts at each port are those of the recorded losses
abbrev pub AreCounts : List (ℕ × NoRoom) → List CauseCounts → Type 0
AreCounts noted counts = (port : ℕ) → port < 17 → slice_index_or counts port no_counts ≡ counts_at port noted
