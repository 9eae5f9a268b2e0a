-- What is known of a device whose reads and writes do not affect each other, for the functions of `socket`.
use Rattle.std.proofs.Common.{◌≡◌, ℕ, Bool, true, false, List, Option, MatchOption, refl, ap}
use Rattle.std.specs.Io.KnownBytes.{prepend_known}
use Rattle.pb_port.specs.declared.answers.Ending.{Ending}
use Rattle.pb_port.specs.declared.answers.Polled.{Polled}
use Rattle.pb_port.specs.declared.answers.Pumped.{Pumped}
use Rattle.pb_port.specs.declared.reader.FrameReader.{FrameReader}
use Rattle.pb_port.specs.declared.sender.Sender.{Sender}
use Rattle.pb_port.specs.declared.stream_position.StreamPosition.{StreamPosition}
use Rattle.pb_port.specs.Devices.{known_if}
use Rattle.pb_port.specs.Inputs.{frames_left, unread_frames}
use Rattle.pb_port.specs.Outputs.{output_of, IsWrittenTo}
use Rattle.pb_port.specs.Ports.{EndedBy, ReadsKnown, sent_between}
use Rattle.pb_port.specs.Reading.{Polls}
use Rattle.pb_port.specs.Sending.{IsBegunAlike, SentBy}
use Rattle.pb_port.proofs.InputLemmas.{polled_frames}
use Rattle.pb_port.proofs.OutputLemmas.{pumped_output, output_same}

pub polled_apart : (b : Bool) (r : Polled) (e e' : Option Ending) (p q : StreamPosition) (h h' : List ℕ)
    (d d' : Option (List ℕ)) (s t : ℕ)
    → MatchOption e (Polls r p (prepend_known h d) q (prepend_known h' d') s t)
    (λ _. (q ≡ p) × (h' ≡ h) × (d' ≡ d) × (t ≡ s))
    → EndedBy r e e'
    → ReadsKnown r (known_if b (frames_left e p (prepend_known h d)))
    (known_if b (frames_left e' q (prepend_known h' d')))
polled_apart true r e e' p q h h' d d' s t read ended = polled_frames r e e' p q h h' d d' s t read ended
polled_apart false r e e' p q h h' d d' s t read ended = tt

pub output_apart : (b : Bool) (w : Sender) (old new : Option (List ℕ)) → (b ≡ true → new ≡ old)
    → known_if b (output_of w new) ≡ known_if b (output_of w old)
output_apart true w old new same = ap (output_of w) (same refl)
output_apart false w old new same = refl

pub offered_apart : (b : Bool) (w w' : Sender) (written : Option (List ℕ)) → IsBegunAlike w w'
    → known_if b (output_of w' written) ≡ known_if b (output_of w written)
offered_apart b w w' written alike = ap (known_if b) (output_same w w' written alike)

pub unread_apart : (b : Bool) (r : FrameReader) (old new : Option (List ℕ)) → (b ≡ true → new ≡ old)
    → known_if b (unread_frames r new) ≡ known_if b (unread_frames r old)
unread_apart true r old new same = ap (unread_frames r) (same refl)
unread_apart false r old new same = refl

pub pumped_apart : (b : Bool) (r : Pumped) (now : ℕ) (w w' : Sender) (old new : Option (List ℕ))
    → SentBy r now w w' old new
    → IsWrittenTo (known_if b (output_of w old)) (known_if b (output_of w' new))
    (sent_between w.unsent.items w'.unsent.items)
pumped_apart true r now w w' old new is = pumped_output r now w w' old new is
pumped_apart false r now w w' old new is = tt
