-- Copies, BPDUs and sources that a bridge lost.
use Rattle.std.specs.Prelude.{◌≡◌, ◌≤◌, ◌*◌, ◌^◌, ℕ, Bool, true, false, ◌==◌, ◌&&◌, List, [], ◌∷◌, Some, flat_map, length}
use Rattle.std.specs.List.{count_by}
use Rattle.pb_frame.specs.declared.learnt.Learnt.TheVariants.{Full as table_full, Memory as no_entry}
use Rattle.pb_lan.specs.declared.step.NoRoom.{NoRoom}
use Rattle.pb_lan.specs.declared.step.NoRoom.TheVariants.{Full, Memory}
use Rattle.pb_lan.specs.declared.step.Outcome.TheVariants.{Relayed}
use Rattle.pb_lan.specs.declared.step.Step.{Step}
use Rattle.pb_lan.specs.declared.step.Step.TheVariants.{Receive, Tick, Admin}
use Rattle.pb_history.specs.declared.cause_counts.CauseCounts.{CauseCounts}

-- the ports that got no copy of a relayed frame, each with the cause
abbrev pub refused_by : Step → List (ℕ × NoRoom)
refused_by (Receive port item learnt (Relayed chosen refused) moved) = refused
refused_by _ = []

-- the ports at which a BPDU of the bridge's own was not queued, each with the cause
abbrev pub dropped_by : Step → List (ℕ × NoRoom)
dropped_by (Receive port item learnt outcome (Some moved)) = moved.dropped
dropped_by (Tick now moved) = moved.dropped
dropped_by (Admin port up moved) = moved.dropped
dropped_by _ = []

-- the cause for which the learning table got no entry for a source
abbrev pub unlearnt_by : Step → List NoRoom
unlearnt_by (Receive port item (Some table_full) outcome moved) = Full ∷ []
unlearnt_by (Receive port item (Some no_entry) outcome moved) = Memory ∷ []
unlearnt_by _ = []

abbrev pub is_cause : NoRoom → NoRoom → Bool
is_cause Full Full = true
is_cause Memory Memory = true
is_cause _ _ = false

-- the number of losses for each cause
abbrev pub counts_of : List NoRoom → CauseCounts
counts_of causes = record { full = count_by (is_cause Full) causes; memory = count_by (is_cause Memory) causes }

abbrev pub is_at : ℕ → NoRoom → (ℕ × NoRoom) → Bool
is_at port cause loss = loss.0 == port && is_cause cause loss.1

abbrev pub counts_at : ℕ → List (ℕ × NoRoom) → CauseCounts
counts_at port losses = record { full = count_by (is_at port Full) losses; memory = count_by (is_at port Memory) losses }

-- the losses of the steps are recorded, and are at most 2^64 of a kind for each step
pub record AreNoted (items : List Step) (copies bpdus : List (ℕ × NoRoom)) (sources : List NoRoom) : Type 0 where
  pub refused : copies ≡ flat_map refused_by items
  pub dropped : bpdus ≡ flat_map dropped_by items
  pub unlearnt : sources ≡ flat_map unlearnt_by items
  pub few_copies : length copies ≤ 2 ^ 64 * length items
  pub few_bpdus : length bpdus ≤ 2 ^ 64 * length items
  pub few_sources : length sources ≤ length items
