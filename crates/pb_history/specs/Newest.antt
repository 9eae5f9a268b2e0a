-- The newest state to which steps set each port.
use Rattle.std.specs.Prelude.{◌≡◌, ℕ, ◌<◌, List, None, unwrap_or, slice_index_or}
use Rattle.std.specs.declared.option.Option.{Option}
use Rattle.pb_lan.specs.Shapes.{changed, changes_of}
use Rattle.pb_lan.specs.declared.shape.PortState.{PortState}
use Rattle.pb_lan.specs.declared.step.Step.{Step}

-- each port's recorded state is the one after the changes, whatever state the port started in
abbrev pub HaveSet : List (Option PortState) → List (Option PortState) → List (ℕ × PortState) → Type 0
HaveSet old new changes = (port : ℕ) → port < 17 → (start : PortState)
    → unwrap_or (slice_index_or new port None) start ≡ changed port (unwrap_or (slice_index_or old port None) start) changes

-- each port's recorded state is the one after all changes of the steps
abbrev pub AreNewest : List Step → List (Option PortState) → Type 0
AreNewest items states = (port : ℕ) → port < 17 → (start : PortState)
    → unwrap_or (slice_index_or states port None) start ≡ changed port start (changes_of items)
