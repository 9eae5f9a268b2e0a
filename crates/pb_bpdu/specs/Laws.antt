-- Laws of BPDUs in frames.
use Rattle.std.specs.Prelude.{◌≡◌, ℕ, List, Ok, length}
use Rattle.pb_bpdu.specs.Layout.{Fits, written}
use Rattle.pb_bpdu.specs.Reading.{reading}
use Rattle.pb_bpdu.specs.declared.bpdu.Bpdu.{Bpdu}

-- the frame that a bridge sends of a BPDU is read as this BPDU
abbrev pub WrittenIsRead : Type 0
WrittenIsRead = (src : List ℕ) (m : Bpdu) → length src ≡ 6 → Fits m → reading (written src m) ≡ Ok m
