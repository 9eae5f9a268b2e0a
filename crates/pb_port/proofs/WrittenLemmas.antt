-- What is written is read as the same frames, for `what_is_written_is_read`.
use Rattle.std.proofs.Common.{◌≡◌, ℕ, ◌+◌, ◌<◌, true, false, List, [], ◌∷◌, ◌++◌, length, refl, arith, length-append}
use Rattle.std.proofs.Common.{None, drop, sym, ap, ◌∙◌, ◌^◌}
use Rattle.std.proofs.Math.Seq.{drop-append_seam}
use Rattle.byteorder.specs.Endian.{big_bytes, little_bytes}
use Rattle.byteorder.specs.Numbers.{little_number-reads_back, big_number-reads_back, length-bytes_high_first}
use Rattle.pb_port.specs.declared.framing.LengthField.{LengthField}
use Rattle.pb_port.specs.declared.framing.LengthField.TheVariants.{Two, Four}
use Rattle.pb_port.specs.declared.stream_position.ByteOrder.TheVariants.{Little}
use Rattle.pb_port.specs.declared.stream_position.StreamPosition.{StreamPosition}
use Rattle.pb_port.specs.declared.stream_position.StreamPosition.TheVariants.{Header, Records, Lengths}
use Rattle.pb_port.specs.declared.framing.Framing.{Framing}
use Rattle.pb_port.specs.declared.framing.Framing.TheVariants.{Capture, Socket}
use Rattle.pb_port.specs.Streams.{captured, original, framed, Passes, IsHeader, IsFrame, IsFrameRecord}
use Rattle.pb_port.specs.Streams.{IsFramed}
use Rattle.pb_port.specs.LengthFields.{octets_of}
use Rattle.pb_port.specs.Ports.{Frames}
use Rattle.pb_port.specs.Spelling.{file_header, record_head, spelled}
use Rattle.pb_port.specs.Whole.{IsStream}
use Rattle.pb_port.specs.Written.{position_of, spelled_all, frames_of, AreShort}

pub header_written : IsHeader Little file_header
header_written = record { long = refl; magic = refl; sound = refl }

pub record_written : (micros : ℕ) (f : List ℕ) → length f < 65536
    → IsFrameRecord Little (record_head micros (length f) ++ f) f
record_written micros f short =
    let kept : captured Little (record_head micros (length f) ++ f) ≡ length f =
    little_number-reads_back 4 (length f) (little_bytes 4 (length f) ++ f) (omega arith) in
    let had : original Little (record_head micros (length f) ++ f) ≡ length f = little_number-reads_back 4 (length f)
    f (omega arith) in
    let long : length (record_head micros (length f) ++ f) ≡ 16 + length f =
    omega (arith, length-append (record_head micros (length f)) f) in
    record { whole = record { limit = omega arith; long = omega arith }; full = omega arith; content = refl }

-- a short frame's length has no more octets than its field
length_fits : (field : LengthField) (n : ℕ) → n < 65536 → n < 256 ^ octets_of field
length_fits Two n short = omega arith
length_fits Four n short = omega arith

pub frame_written : (field : LengthField) (f : List ℕ) → length f < 65536
    → IsFramed field (big_bytes (octets_of field) (length f) ++ f) f
frame_written field f short =
    let head = big_bytes (octets_of field) (length f) in
    let octets : length head ≡ octets_of field = length-bytes_high_first (octets_of field) (length f) in
    let number : framed field (head ++ f) ≡ length f =
    big_number-reads_back (octets_of field) (length f) f (length_fits field (length f) short) in
    let long : length (head ++ f) ≡ octets_of field + length f = omega (arith, length-append head f) in
    let content : drop (octets_of field) (head ++ f) ≡ f = ap (λ k. drop k (head ++ f)) (sym octets)
    ∙ drop-append_seam head f in
    record { limit = omega arith; long = omega arith; content = sym content }

-- a frame at the front, followed by more
frame_first : (p q : StreamPosition) (front part rest f : List ℕ) (fs : Frames) → Passes p front q 0 → IsFrame q part f
    → IsStream q rest fs 0 None → IsStream p (front ++ (part ++ rest)) (f ∷ fs) 0 None
frame_first p q front part rest f fs pass is left = (q, front, part, rest, 0, 0, pass, is, refl, left, refl)

written_behind : (framing : Framing) (frames : List (ℕ × List ℕ)) → AreShort frames
    → IsStream (position_of framing false) (spelled_all framing false frames) (frames_of frames) 0 None
written_behind Capture [] short = (Records Little, [], [], (refl, refl), refl, (refl, λ _. refl))
written_behind Capture ((micros, f) ∷ more) (short, shorts) =
    frame_first (Records Little) (Records Little) [] (spelled Capture false micros f) (spelled_all Capture false more) f
    (frames_of more) (refl, refl) (record_written micros f short) (written_behind Capture more shorts)
written_behind (Socket field) [] short = (Lengths field, [], [], (refl, refl, refl), refl, (refl, λ _. refl))
written_behind (Socket field) ((micros, f) ∷ more) (short, shorts) =
    frame_first (Lengths field) (Lengths field) [] (spelled (Socket field) false micros f)
    (spelled_all (Socket field) false more) f (frames_of more) (refl, refl, refl) (frame_written field f short)
    (written_behind (Socket field) more shorts)

pub written_read : (framing : Framing) (micros : ℕ) (f : List ℕ) (more : List (ℕ × List ℕ))
    → AreShort ((micros, f) ∷ more)
    → IsStream (position_of framing true) (spelled_all framing true ((micros, f) ∷ more))
    (frames_of ((micros, f) ∷ more)) 0 None
written_read Capture micros f more (short, shorts) =
    frame_first Header (Records Little) file_header (record_head micros (length f) ++ f)
    (spelled_all Capture false more)
    f (frames_of more) (file_header, [], header_written, refl, refl) (record_written micros f short)
    (written_behind Capture more shorts)
written_read (Socket field) micros f more (short, shorts) =
    frame_first (Lengths field) (Lengths field) [] (spelled (Socket field) true micros f)
    (spelled_all (Socket field) false more) f (frames_of more) (refl, refl, refl) (frame_written field f short)
    (written_behind (Socket field) more shorts)
