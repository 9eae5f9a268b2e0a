-- The taps of a run's lanes.
use Rattle.std.specs.Prelude.{◌≡◌, Bool, true, List}
use Rattle.std.specs.List.{AllZip}
use Rattle.std.specs.declared.vec.Vec.{Vec}
use Rattle.pb_lan.specs.declared.record.Record.{Record}
use Rattle.pb_lan.specs.declared.step.Step.{Step}
use Rattle.pb_tap.specs.declared.tap.Tap.{Tap}
use Rattle.pb_workers.specs.Recording.{AreRecorded}

-- each tap of a lane was given the frames that the lane put, and no others of the lane
abbrev pub AreTapped : {P Z : Type 0} → List (List Step) → List (Vec (Tap P) Z) → Type 0
AreTapped lanes taps = AllZip (λ list steps. AreRecorded list.items steps) taps lanes

-- the record of a run whose places keep their steps is that of its counts, and its taps were given what the lanes put
abbrev pub ComesBack : {P Z : Type 0} → Bool → Record → Record → List (Vec (Tap P) Z) → Type 0
ComesBack keeps counts rec taps = (keeps ≡ true → rec ≡ counts) × AreTapped counts.lanes taps
