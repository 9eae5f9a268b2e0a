-- What a port wrote is read as the frames that it sent, for `what_was_sent_is_read`.
use Rattle.std.proofs.Common.{◌≡◌, ℕ, ◌<◌, Bool, true, false, List, [], ◌∷◌, ◌++◌, length, refl, sym, ap}
use Rattle.std.proofs.Common.{◌∙◌, append_assoc, append-nil, arith}
use Rattle.pb_port.specs.declared.framing.Framing.{Framing}
use Rattle.pb_port.specs.declared.framing.Framing.TheVariants.{Capture, Socket}
use Rattle.pb_port.specs.declared.stream_position.ByteOrder.TheVariants.{Little}
use Rattle.pb_port.specs.declared.stream_position.StreamPosition.TheVariants.{Header, Records, Lengths}
use Rattle.pb_port.specs.Inputs.{decoded}
use Rattle.pb_port.specs.Outputs.{OutputState, HasWritten}
use Rattle.pb_port.specs.Ports.{Frames}
use Rattle.pb_port.specs.Sending.{fresh_after}
use Rattle.pb_port.specs.Spelling.{file_header, record_head, spelled}
use Rattle.pb_port.specs.Written.{position_of, spelled_all, frames_of, AreShort}
use Rattle.pb_port.proofs.BegunLemmas.{nothing_none}
use Rattle.pb_port.proofs.InputLemmas.{next_frame}
use Rattle.pb_port.proofs.OutputLemmas.{never_fresh}
use Rattle.pb_port.proofs.WrittenLemmas.{header_written, record_written, frame_written}

first_read : (framing : Framing) (fresh : Bool) (micros : ℕ) (f rest : List ℕ) → length f < 65536
    → decoded (position_of framing fresh) (spelled framing fresh micros f ++ rest)
    ≡ f ∷ decoded (position_of framing false) rest
first_read Capture true micros f rest short =
    let part = record_head micros (length f) ++ f in
    next_frame Header (Records Little) (file_header ++ (part ++ rest)) rest f 0 0 (
      0,
      file_header,
      part,
      (file_header, [], header_written, refl, refl),
      record_written micros f short,
      refl,
      omega arith,
    )
first_read Capture false micros f rest short =
    let part = record_head micros (length f) ++ f in
    next_frame (Records Little) (Records Little) (part ++ rest) rest f 0 0
    (0, [], part, (refl, refl), record_written micros f short, refl, omega arith)
first_read (Socket field) fresh micros f rest short =
    let part = spelled (Socket field) fresh micros f in
    next_frame (Lengths field) (Lengths field) (part ++ rest) rest f 0 0
    (0, [], part, (refl, refl, refl), frame_written field f short, refl, omega arith)

spelled_read : (framing : Framing) (fresh : Bool) (xs : List (ℕ × List ℕ)) (rest : List ℕ) → AreShort xs
    → decoded (position_of framing fresh) (spelled_all framing fresh xs ++ rest)
    ≡ frames_of xs ++ decoded (position_of framing (fresh_after (length (frames_of xs)) fresh)) rest
spelled_read framing fresh [] rest short = refl
spelled_read framing fresh ((micros, f) ∷ xs) rest (short, shorts) =
    let front = spelled framing fresh micros f in
    let back = spelled_all framing false xs in
    ap (decoded (position_of framing fresh)) (append_assoc front back rest)
    ∙ first_read framing fresh micros f (back ++ rest) short
    ∙ ap (λ z. f ∷ z) (spelled_read framing false xs rest shorts)
    ∙ ap (λ b. f ∷ (frames_of xs ++ decoded (position_of framing b) rest)) (never_fresh (length (frames_of xs)))

pub sent_read : (old new : OutputState) (frames : Frames) → old.begun ≡ [] → old.written ≡ []
    → HasWritten old new frames → decoded (position_of old.framing old.fresh) new.written ≡ frames
sent_read old new frames none empty wrote =
    let p = position_of old.framing old.fresh in
    let stamped = wrote.stamped in
    let octets : new.written ≡ spelled_all old.framing old.fresh stamped ++ new.begun =
    wrote.appended ∙ ap (λ z. z ++ wrote.octets) empty ∙ ap (λ z. z ++ wrote.octets) (sym none) ∙ wrote.encodes in
    let fresh : fresh_after (length (frames_of stamped)) old.fresh ≡ new.fresh =
    ap (λ z. fresh_after (length z) old.fresh) wrote.frames_are ∙ sym wrote.fresh in
    let begun : decoded (position_of new.framing new.fresh) new.begun ≡ [] =
    wrote.part (ap (decoded p) none ∙ nothing_none p) in
    ap (decoded p) octets ∙ spelled_read old.framing old.fresh stamped new.begun wrote.short
    ∙ ap (λ z. z ++ decoded (position_of old.framing (fresh_after (length (frames_of stamped)) old.fresh)) new.begun)
    wrote.frames_are
    ∙ ap (λ b. frames ++ decoded (position_of old.framing b) new.begun) fresh
    ∙ ap (λ z. frames ++ decoded (position_of z new.fresh) new.begun) (sym wrote.framing)
    ∙ ap (λ z. frames ++ z) begun ∙ append-nil frames
