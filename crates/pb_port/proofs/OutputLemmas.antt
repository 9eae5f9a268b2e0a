-- What was written of frames adds up to the frames, encoded one after the other, for the pumps of ports.
use Rattle.std.proofs.Common.{◌≡◌, ℕ, zero, suc, ◌-◌, Bool, false, List, [], ◌∷◌, ◌++◌, length, take}
use Rattle.std.proofs.Common.{Option, Some, None, refl, sym, ap, ◌∙◌, subst, append_assoc, append-nil, arith}
use Rattle.std.proofs.Common.{length-append, length-take, length-drop, All, ◌<◌}
use Rattle.std.proofs.lemmas.List.Elements.{All-head, All-tail, All-take}
use Rattle.pb_port.specs.declared.answers.Pumped.{Pumped}
use Rattle.pb_port.specs.declared.framing.Framing.{Framing}
use Rattle.pb_port.specs.declared.sender.Sender.{Sender}
use Rattle.pb_port.specs.Outputs.{OutputState, output_of, HasWritten, IsWrittenTo}
use Rattle.pb_port.specs.Ports.{Frames, sent_between}
use Rattle.pb_port.specs.Sending.{begun, stamp_of, fresh_after, IsBegunAlike, Sent, SentBy}
use Rattle.pb_port.specs.Spelling.{spelled, stream_of, stream_behind}
use Rattle.pb_port.specs.Written.{spelled_all, frames_of, AreShort}
use Rattle.pb_port.proofs.BegunLemmas.{begun_none}
use Rattle.pb_port.proofs.SendingLemmas.{fresh_after-add}
use Rattle.pb_port.proofs.StayingLemmas.{sent_some}

-- frames that are begun now, after others
abbrev stamped_behind : ℕ → Frames → List (ℕ × List ℕ)
stamped_behind now [] = []
stamped_behind now (f ∷ fs) = (now, f) ∷ stamped_behind now fs

-- frames of which the first was begun at some microsecond, and the others now
abbrev stamped_of : ℕ → ℕ → Frames → List (ℕ × List ℕ)
stamped_of s now [] = []
stamped_of s now (f ∷ fs) = (s, f) ∷ stamped_behind now fs

spelled_behind : (framing : Framing) (now : ℕ) (fs : Frames)
    → spelled_all framing false (stamped_behind now fs) ≡ stream_behind framing now fs
spelled_behind framing now [] = refl
spelled_behind framing now (f ∷ fs) = ap (λ z. spelled framing false now f ++ z) (spelled_behind framing now fs)

spelled_is : (framing : Framing) (fresh : Bool) (s now : ℕ) (fs : Frames)
    → spelled_all framing fresh (stamped_of s now fs) ≡ stream_of framing fresh s now fs
spelled_is framing fresh s now [] = refl
spelled_is framing fresh s now (f ∷ fs) = ap (λ z. spelled framing fresh s f ++ z) (spelled_behind framing now fs)

frames_behind : (now : ℕ) (fs : Frames) → frames_of (stamped_behind now fs) ≡ fs
frames_behind now [] = refl
frames_behind now (f ∷ fs) = ap (λ z. f ∷ z) (frames_behind now fs)

frames_are : (s now : ℕ) (fs : Frames) → frames_of (stamped_of s now fs) ≡ fs
frames_are s now [] = refl
frames_are s now (f ∷ fs) = ap (λ z. f ∷ z) (frames_behind now fs)

frames_of-append : (xs ys : List (ℕ × List ℕ)) → frames_of (xs ++ ys) ≡ frames_of xs ++ frames_of ys
frames_of-append [] ys = refl
frames_of-append ((micros, f) ∷ xs) ys = ap (λ z. f ∷ z) (frames_of-append xs ys)

short-append : (xs ys : List (ℕ × List ℕ)) → AreShort xs → AreShort ys → AreShort (xs ++ ys)
short-append [] ys a b = b
short-append ((micros, f) ∷ xs) ys (short, shorts) b = (short, short-append xs ys shorts b)

-- no frame has more octets than a sender takes
abbrev IsShort : List ℕ → Type 0
IsShort f = length f < 65536

short_behind : (now : ℕ) (fs : Frames) → All IsShort fs → AreShort (stamped_behind now fs)
short_behind now [] all = tt
short_behind now (f ∷ fs) all = (All-head IsShort f fs all, short_behind now fs (All-tail IsShort f fs all))

short_of : (s now : ℕ) (fs : Frames) → All IsShort fs → AreShort (stamped_of s now fs)
short_of s now [] all = tt
short_of s now (f ∷ fs) all = (All-head IsShort f fs all, short_behind now fs (All-tail IsShort f fs all))

pub never_fresh : (n : ℕ) → fresh_after n false ≡ false
never_fresh zero = refl
never_fresh (suc n) = refl

spelled_all-append : (framing : Framing) (fresh : Bool) (xs ys : List (ℕ × List ℕ))
    → spelled_all framing fresh (xs ++ ys)
    ≡ spelled_all framing fresh xs ++ spelled_all framing (fresh_after (length (frames_of xs)) fresh) ys
spelled_all-append framing fresh [] ys = refl
spelled_all-append framing fresh ((micros, f) ∷ xs) ys =
    let front = spelled framing fresh micros f in
    let rest : spelled_all framing false (xs ++ ys) ≡ spelled_all framing false xs ++ spelled_all framing false ys =
    spelled_all-append framing false xs ys
    ∙ ap (λ b. spelled_all framing false xs ++ spelled_all framing b ys) (never_fresh (length (frames_of xs))) in
    ap (λ z. front ++ z) rest ∙ sym (append_assoc front (spelled_all framing false xs) (spelled_all framing false ys))

encoded_on : (framing : Framing) (fresh fresh1 : Bool) (b b1 b2 octets more : List ℕ) (xs ys : List (ℕ × List ℕ))
    → fresh1 ≡ fresh_after (length (frames_of xs)) fresh → b ++ octets ≡ spelled_all framing fresh xs ++ b1
    → b1 ++ more ≡ spelled_all framing fresh1 ys ++ b2
    → b ++ (octets ++ more) ≡ spelled_all framing fresh (xs ++ ys) ++ b2
encoded_on framing fresh fresh1 b b1 b2 octets more xs ys after one two =
    let front = spelled_all framing fresh xs in
    let back = spelled_all framing fresh1 ys in
    let both : spelled_all framing fresh (xs ++ ys) ≡ front ++ back =
    spelled_all-append framing fresh xs ys ∙ ap (λ z. front ++ spelled_all framing z ys) (sym after) in
    sym (append_assoc b octets more) ∙ ap (λ z. z ++ more) one ∙ append_assoc front b1 more ∙ ap (λ z. front ++ z) two
    ∙ sym (append_assoc front back b2) ∙ ap (λ z. z ++ b2) (sym both)

has_written_on : (a b c : OutputState) (fs gs : Frames) → HasWritten a b fs → HasWritten b c gs
    → HasWritten a c (fs ++ gs)
has_written_on a b c fs gs one two =
    let P : Framing → Type 0 = λ z. b.begun ++ two.octets ≡ spelled_all z b.fresh two.stamped ++ c.begun in
    let after : b.fresh ≡ fresh_after (length (frames_of one.stamped)) a.fresh =
    one.fresh ∙ ap (λ z. fresh_after (length z) a.fresh) (sym one.frames_are) in
    record {
      octets = one.octets ++ two.octets;
      appended = two.appended ∙ ap (λ z. z ++ two.octets) one.appended ∙ append_assoc a.written one.octets two.octets;
      stamped = one.stamped ++ two.stamped;
      frames_are = frames_of-append one.stamped two.stamped ∙ ap (λ z. z ++ frames_of two.stamped) one.frames_are
          ∙ ap (λ z. fs ++ z) two.frames_are;
      short = short-append one.stamped two.stamped one.short two.short;
      encodes = encoded_on a.framing a.fresh b.fresh a.begun b.begun c.begun one.octets two.octets one.stamped
          two.stamped after one.encodes (subst P one.framing two.encodes);
      part = λ is. two.part (one.part is);
      fresh = two.fresh ∙ ap (fresh_after (length gs)) one.fresh ∙ fresh_after-add (length fs) (length gs) a.fresh
          ∙ ap (λ n. fresh_after n a.fresh) (sym (length-append fs gs));
      framing = two.framing ∙ one.framing;
    }

pub written_none : (x : Option OutputState) → IsWrittenTo x x []
written_none None = tt
written_none (Some a) = record {
  octets = [];
  appended = sym (append-nil a.written);
  stamped = [];
  frames_are = refl;
  short = tt;
  encodes = append-nil a.begun;
  part = λ is. is;
  fresh = refl;
  framing = refl;
}

pub written_on : (x y z : Option OutputState) (fs gs : Frames) → IsWrittenTo x y fs → IsWrittenTo y z gs
    → IsWrittenTo x z (fs ++ gs)
written_on None y z fs gs one two = tt
written_on (Some a) None z fs gs one two = absurd one
written_on (Some a) (Some b) None fs gs one two = absurd two
written_on (Some a) (Some b) (Some c) fs gs one two = has_written_on a b c fs gs one two

-- the frames of which the last octets were written
sent_written : (n now : ℕ) (w w' : Sender) (old new : Option (List ℕ)) → Sent n now w w' old new
    → IsWrittenTo (output_of w old) (output_of w' new) (take n w.unsent.items)
sent_written n now w w' None new sent = tt
sent_written n now w w' (Some xs) None (octets, grown, adds) = absurd grown
sent_written n now w w' (Some xs) (Some ys) (octets, grown, adds) =
    let fs = take n w.unsent.items in
    let stamp = stamp_of now w in
    let count : length fs ≡ n = omega (arith, length-take n w.unsent.items, adds.within) in
    record {
      octets = octets;
      appended = grown;
      stamped = stamped_of stamp now fs;
      frames_are = frames_are stamp now fs;
      short = short_of stamp now fs (All-take IsShort n w.unsent.items w.short);
      encodes = adds.spells ∙ ap (λ z. z ++ begun w') (sym (spelled_is w.framing w.fresh stamp now fs));
      part = λ is. begun_none w';
      fresh = adds.fresh ∙ ap (λ k. fresh_after k w.fresh) (sym count);
      framing = adds.framing;
    }

-- the frames that a pump sent are those that wait no more
some_written : (now : ℕ) (w w' : Sender) (old new : Option (List ℕ)) → (n : ℕ) × Sent n now w w' old new
    → IsWrittenTo (output_of w old) (output_of w' new) (sent_between w.unsent.items w'.unsent.items)
some_written now w w' old new (n, (octets, grown, adds)) =
    let count : n ≡ length w.unsent.items - length w'.unsent.items =
    omega (arith, ap length adds.left, length-drop n w.unsent.items, adds.within) in
    subst (λ k. IsWrittenTo (output_of w old) (output_of w' new) (take k w.unsent.items)) count
    (sent_written n now w w' old new (octets, grown, adds))

pub pumped_output : (r : Pumped) (now : ℕ) (w w' : Sender) (old new : Option (List ℕ)) → SentBy r now w w' old new
    → IsWrittenTo (output_of w old) (output_of w' new) (sent_between w.unsent.items w'.unsent.items)
pumped_output r now w w' old new is = some_written now w w' old new (sent_some r now w w' old new is)

-- a sender whose frame is written as far as before has the same output
pub output_same : (w w' : Sender) (written : Option (List ℕ)) → IsBegunAlike w w'
    → output_of w' written ≡ output_of w written
output_same w w' None alike = refl
output_same w w' (Some octets) alike =
    let same : begun w' ≡ begun w = alike.0 in
    let framing : w'.framing ≡ w.framing = alike.1 in
    let fresh : w'.fresh ≡ w.fresh = alike.2 in
    cc
