-- Frames that enter, leave and are filtered, and items that lanes take and lose.
use Rattle.std.specs.Prelude.{◌≡◌, ℕ, Bool, true, false, not, ◌==◌, ◌<◌, List, Some, None, length, slice_index_or}
use Rattle.std.specs.declared.option.Option.{Option}
use Rattle.std.specs.List.{count_by}
use Rattle.pb_lan.specs.declared.step.Outcome.TheVariants.{Filtered}
use Rattle.pb_lan.specs.declared.step.Step.{Step}
use Rattle.pb_lan.specs.declared.step.Step.TheVariants.{Poll, Deliver, Receive, Take}

-- a frame entered through a customer port
abbrev pub is_poll : Step → Bool
is_poll (Poll item) = true
is_poll _ = false

abbrev pub is_departure : Step → Bool
is_departure (Deliver item gone) = not gone
is_departure _ = false

-- a frame was lost at a customer port that takes no more frames
abbrev pub is_gone : Step → Bool
is_gone (Deliver item gone) = gone
is_gone _ = false

-- a frame that this port received was filtered
abbrev pub is_filtered : ℕ → Step → Bool
is_filtered port (Receive at item learnt (Filtered reason) moved) = at == port
is_filtered port _ = false

-- the port at which a step filtered a frame
abbrev pub filtered_by : Step → Option ℕ
filtered_by (Receive at item learnt (Filtered reason) moved) = Some at
filtered_by _ = None

-- a lane took an item
abbrev pub is_take : Step → Bool
is_take (Take number item lost) = true
is_take _ = false

abbrev pub is_loss : Step → Bool
is_loss (Take number item lost) = lost
is_loss _ = false

-- the counts are those of the steps of each kind
pub record ArePassages (items : List Step) (steps entered left gone taken lost : ℕ) : Type 0 where
  pub all : steps ≡ length items
  pub polls : entered ≡ count_by is_poll items
  pub departures : left ≡ count_by is_departure items
  pub lost_there : gone ≡ count_by is_gone items
  pub takes : taken ≡ count_by is_take items
  pub losses : lost ≡ count_by is_loss items

-- the count at each port is that of the frames that were filtered there
abbrev pub AreFiltered : List Step → List ℕ → Type 0
AreFiltered items counts = (port : ℕ) → port < 17 → slice_index_or counts port 0 ≡ count_by (is_filtered port) items
