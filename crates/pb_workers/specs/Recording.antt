-- The frames that a lane puts, and what its taps have of them.
use Rattle.std.specs.Prelude.{◌≡◌, List, ◌++◌, map, All, Option, Some, None, option_to_list}
use Rattle.pb_lan.specs.LaneLists.{put}
use Rattle.pb_lan.specs.declared.step.Item.{Item}
use Rattle.pb_lan.specs.declared.step.Step.{Step}
use Rattle.pb_port.specs.Ports.{Frames}
use Rattle.pb_tap.specs.Taps.{own_of, IsPrepared}
use Rattle.pb_tap.specs.declared.tap.Tap.{Tap}

-- the frames that a lane put
abbrev pub put_wires : List Step → Frames
put_wires steps = map (λ item. item.wire) (put steps)

-- the lane's frames that each tap was given
abbrev pub own_lists : {P : Type 0} → List (Tap P) → List Frames
own_lists taps = map (λ t. own_of t.recorder) taps

-- each tap was given the frames that the lane put, and no others of the lane
abbrev pub AreRecorded : {P : Type 0} → List (Tap P) → List Step → Type 0
AreRecorded taps steps = All (λ frames. frames ≡ put_wires steps) (own_lists taps)

-- the lane's frames that a tap was given, with that of which it has a copy
abbrev pub with_ready : {P : Type 0} → Tap P → Frames
with_ready t = own_of t.recorder ++ option_to_list t.ready

-- each tap has space for the frame of the item in hand, and a copy of it
abbrev pub ArePrepared : {P : Type 0} → Option Item → List (Tap P) → Type 0
ArePrepared (Some item) taps = All (IsPrepared item.wire) taps
ArePrepared None taps = Unit {0}
