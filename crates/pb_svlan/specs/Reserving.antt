-- The last octet of a frame's reserved destination.
use Rattle.std.specs.Prelude.{ℕ, List, slice_index, Some, None, if◌then◌else◌}
use Rattle.std.specs.declared.option.Option.{Option}
use Rattle.pb_frame.specs.Admission.{is_reserved}
use Rattle.pb_frame.specs.Frames.{dst_of}

abbrev pub reserved_octet : List ℕ → Option ℕ
reserved_octet x = if is_reserved (dst_of x) then Some (slice_index x 5) else None
