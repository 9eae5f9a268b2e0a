-- The polls and pumps of a port whose peers come and go.
use Rattle.std.specs.Prelude.{◌≡◌, ℕ, ◌-◌, ◌<◌, true, false, List, [], length, Option, Some, None}
use Rattle.pb_port.specs.declared.answers.Polled.{Polled}
use Rattle.pb_port.specs.declared.answers.Pumped.{Pumped}
use Rattle.pb_port.specs.declared.answers.Ending.{Ending}
use Rattle.pb_port.specs.declared.framing.LengthField.{LengthField}
use Rattle.pb_port.specs.declared.line.Parting.{Parting}
use Rattle.pb_port.specs.declared.reader.FrameReader.{FrameReader}
use Rattle.pb_port.specs.declared.sender.Sender.{Sender}
use Rattle.pb_port.specs.declared.staying.StayingPort.{StayingPort}
use Rattle.pb_port.specs.declared.stream_position.StreamPosition.TheVariants.{Lengths}
use Rattle.pb_port.specs.Beginning.{Begins}
use Rattle.pb_port.specs.Held.{held}
use Rattle.pb_port.specs.Ports.{answer_of, PumpedBy, sent_count}
use Rattle.pb_port.specs.Reading.{held_sum}
use Rattle.pb_port.specs.Sending.{begun, Sent, SentBy}

-- the result of the port's reader: the port's result while the peer is there, and the end or fault of one that left
abbrev pub heard : Polled → Option Ending → Polled
heard p None = p
heard p (Some e) = answer_of e

-- the reader holds nothing, and is before the first octet of a peer, whose lengths have this field
pub record IsNewReader (field : LengthField) (r : FrameReader) : Type 0 where
  pub held : held r.intake ≡ []
  pub position : r.position ≡ Lengths field
  pub ended : r.ended ≡ None

-- no frame waits, and none was begun
pub record IsNewSender (w : Sender) : Type 0 where
  pub unsent : w.unsent.items ≡ []
  pub begun : begun w ≡ []
  pub fresh : w.fresh ≡ true

-- the counts that a line is given
abbrev pub parting_of : ℕ → ℕ → ℕ → Parting
parting_of entered left dropped = record { entered = entered; left = left; dropped = dropped }

module _ {S : Type 0} where
  -- the peer stays, and the pump is that of a socket
  pub record Stays (written : S → Option (List ℕ)) (failed : S → ℕ) (r : Pumped) (now : ℕ) (p p' : StayingPort S)
      : Type 0 where
    pub pumped : PumpedBy r p.sender.unsent.items p'.sender.unsent.items false false (failed p.line) (failed p'.line)
    pub octets : SentBy r now p.sender p'.sender (written p.line) (written p'.line)
    pub reader : p'.frames ≡ p.frames
    pub counts : (p'.entered ≡ p.entered) × (p'.left ≡ held_sum p.left (sent_count r))

  -- the peer left after n more frames were sent to it: the `rest` of those that waited and all that begin in the held
  -- octets are dropped, the line is renewed with the counts, and the port is before the first octets of the next peer
  pub record Leaves (renews : S → Parting → S → Type 0) (n rest : ℕ) (line : S) (p p' : StayingPort S) : Type 0 where
    pub unread : ℕ
    pub begins : Begins p.framing (held p.frames.intake) unread
    pub renewed : renews line (parting_of p.entered (held_sum p.left n) (held_sum rest unread)) p'.line
    pub counts : (p'.entered ≡ 0) × (p'.left ≡ 0)
    pub framing : p'.framing ≡ p.framing
    pub reader : IsNewReader p.framing p'.frames
    pub sender : IsNewSender p'.sender

  -- a write fails after n frames were sent, with which the peer leaves
  pub record LeavesAtWrite (written : S → Option (List ℕ)) (failed : S → ℕ) (renews : S → Parting → S → Type 0)
      (now : ℕ) (p p' : StayingPort S) : Type 0 where
    pub n : ℕ
    pub line : S
    pub sender : Sender
    pub sent : Sent n now p.sender sender (written p.line) (written line)
    pub fails : failed p.line < failed line
    pub leaves : Leaves renews n (length p.sender.unsent.items - n) line p p'
