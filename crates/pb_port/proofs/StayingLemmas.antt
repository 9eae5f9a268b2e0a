-- The results of reader and sender as those of a port whose peers come and go, for the functions of `staying`.
use Rattle.std.proofs.Common.{◌≡◌, ℕ, ◌<◌, true, false, List, Option, subst, ◌∙◌, Some, None, sym, refl}
use Rattle.pb_port.specs.declared.fault.PortFault.TheVariants.{Magic, Version, LinkType, Truncated, Oversize, Read}
use Rattle.pb_port.specs.declared.fault.PortFault.TheVariants.{Write, Memory}
use Rattle.pb_port.specs.declared.answers.Ending.{Ending}
use Rattle.pb_port.specs.declared.answers.Ending.TheVariants.{End as end, Fault as fault}
use Rattle.pb_port.specs.declared.answers.Polled.{Polled}
use Rattle.pb_port.specs.declared.answers.Polled.TheVariants.{Frame, Nothing, End, Fault}
use Rattle.pb_port.specs.declared.answers.Pumped.{Pumped}
use Rattle.pb_port.specs.declared.answers.Pumped.TheVariants.{Wrote, Nothing as pumped_nothing, Fault as pumped_fault}
use Rattle.pb_port.specs.declared.framing.LengthField.{LengthField}
use Rattle.pb_port.specs.declared.line.Parting.{Parting}
use Rattle.pb_port.specs.declared.reader.FrameReader.{FrameReader}
use Rattle.pb_port.specs.declared.sender.Sender.{Sender}
use Rattle.pb_port.specs.declared.staying.StayingPort.{StayingPort}
use Rattle.pb_port.specs.Beginning.{Begins}
use Rattle.pb_port.specs.Held.{held}
use Rattle.pb_port.specs.Reading.{held_sum}
use Rattle.pb_port.specs.Ports.{Frames, PumpedBy, EndedBy, answer_of, ending_of}
use Rattle.pb_port.specs.Sending.{Sent, SentBy}
use Rattle.pb_port.specs.Staying.{heard, parting_of, Leaves, IsNewReader}

-- a write that has failed after a pump, and not before it, was counted in this pump
pub pumped_fails : (r : Pumped) (us ws : Frames) (m m' : ℕ) → PumpedBy r us ws false true m m' → m < m'
pumped_fails (Wrote n) us ws m m' (some, within, left, sound, sound', same) = cc
pumped_fails pumped_nothing us ws m m' (left, sound, sound', same) = cc
pumped_fails (pumped_fault Memory) us ws m m' (some, none) =
    let wrong : true ≡ false = none.2 in
    cc
pumped_fails (pumped_fault Write) us ws m m' (left, is, more) = more
pumped_fails (pumped_fault Magic) us ws m m' pumped = absurd pumped
pumped_fails (pumped_fault Version) us ws m m' pumped = absurd pumped
pumped_fails (pumped_fault LinkType) us ws m m' pumped = absurd pumped
pumped_fails (pumped_fault Truncated) us ws m m' pumped = absurd pumped
pumped_fails (pumped_fault Oversize) us ws m m' pumped = absurd pumped
pumped_fails (pumped_fault Read) us ws m m' pumped = absurd pumped

ending_heard : (p : Polled) (e : Ending) → Some e ≡ ending_of p → answer_of e ≡ p
ending_heard (Frame f) e is = cc
ending_heard Nothing e is = cc
ending_heard End end is = refl
ending_heard End (fault k) is = cc
ending_heard (Fault Memory) e is = cc
ending_heard (Fault k) end is = cc
ending_heard (Fault k) (fault l) is = cc

-- once the peer has left, its ending says the result of the reader
pub heard_left : (p : Polled) (old new : Option Ending) (e : Ending) → new ≡ Some e → EndedBy p old new
    → heard Nothing new ≡ p
heard_left p None new e left (is, of) =
    let last : Some e ≡ ending_of p = sym left ∙ is in
    rw left (ending_heard p e last)
heard_left p (Some e') new e left (is, kept) = rw kept (sym is)

-- some frames were sent, whatever the result
pub sent_some : (r : Pumped) (now : ℕ) (w w' : Sender) (old new : Option (List ℕ)) → SentBy r now w w' old new
    → (n : ℕ) × Sent n now w w' old new
sent_some (Wrote n) now w w' old new sent = (n, sent)
sent_some pumped_nothing now w w' old new sent = (0, sent)
sent_some (pumped_fault k) now w w' old new sent = sent

-- a parting depends on what the port counted and held before, and on nothing else
pub leaves_same : {S : Type 0} (renews : S → Parting → S → Type 0) (m n k rest : ℕ) (line : S) (q p p' : StayingPort S)
    → m ≡ n → k ≡ rest
    → q.framing ≡ p.framing → q.frames ≡ p.frames → q.entered ≡ p.entered → q.left ≡ p.left
    → Leaves renews m k line q p'
    → Leaves renews n rest line p p'
leaves_same renews m n k rest line q p p' sent waited framing frames entered left leaves =
    let P : ℕ → ℕ → LengthField → FrameReader → ℕ → ℕ → Type 0 = λ a b field r e l.
    (unread : ℕ) × Begins field (held r.intake) unread
    × renews line (parting_of e (held_sum l a) (held_sum b unread)) p'.line in
    let found : P n rest p.framing p.frames p.entered p.left =
    rw (← sent, ← waited, ← framing, ← frames, ← entered, ← left) (leaves.unread, leaves.begins, leaves.renewed) in
    record {
      unread = found.0;
      begins = found.1;
      renewed = found.2;
      counts = leaves.counts;
      framing = leaves.framing ∙ framing;
      reader = subst (λ field. IsNewReader field p'.frames) framing leaves.reader;
      sender = leaves.sender;
    }
