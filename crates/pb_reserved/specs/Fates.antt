-- Handling of a frame by its destination address.
use Rattle.std.specs.Prelude.{ℕ, List, slice_index, if◌then◌else◌}
use Rattle.pb_frame.specs.Admission.{same, is_reserved, provider_address}
use Rattle.pb_reserved.specs.declared.kinds.Fate.{Fate}
use Rattle.pb_reserved.specs.declared.kinds.Fate.TheVariants.{Carry, Provider, Filter}

-- the provider address is for the bridges themselves, any other reserved address is filtered, all others are relayed
abbrev pub fate_of : List ℕ → Fate
fate_of mac =
    if same mac provider_address then Provider
    else if is_reserved mac then Filter (slice_index mac 5)
    else Carry
