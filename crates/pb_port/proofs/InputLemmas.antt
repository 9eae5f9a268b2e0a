-- What polls take from the frames in an input, for the polls of ports.
use Rattle.std.proofs.Common.{◌≡◌, ℕ, ◌+◌, List, [], ◌∷◌, ◌++◌, Option, Some, None, MatchOption, refl, sym}
use Rattle.std.proofs.Common.{subst}
use Rattle.std.specs.Io.KnownBytes.{prepend_known}
use Rattle.pb_port.specs.declared.answers.Ending.{Ending}
use Rattle.pb_port.specs.declared.answers.Ending.TheVariants.{End as ending_end, Fault as ending_fault}
use Rattle.pb_port.specs.declared.answers.Polled.{Polled}
use Rattle.pb_port.specs.declared.answers.Polled.TheVariants.{Frame, Nothing, End, Fault}
use Rattle.pb_port.specs.declared.fault.PortFault.{PortFault}
use Rattle.pb_port.specs.declared.fault.PortFault.TheVariants.{Magic, Version, LinkType, Truncated, Oversize, Read}
use Rattle.pb_port.specs.declared.fault.PortFault.TheVariants.{Write, Memory}
use Rattle.pb_port.specs.declared.stream_position.StreamPosition.{StreamPosition}
use Rattle.pb_port.specs.Inputs.{decoded, each_is_read, still_to_come, frames_left}
use Rattle.pb_port.specs.Ports.{Frames, EndedBy, ReadsFrames, ReadsKnown, answer_of, ending_of}
use Rattle.pb_port.specs.Reading.{Reached, Given, Polls}
use Rattle.pb_port.specs.Whole.{Ends, IsStream}
use Rattle.pb_port.specs.Readable.{stream_behind_parts}
use Rattle.pb_port.proofs.WholeLemmas.{one_reading}

-- the frames of any reading are those in the input
pub are_in : (p : StreamPosition) (xs : List ℕ) (fs : Frames) (n : ℕ) (fault : Option PortFault)
    → IsStream p xs fs n fault
    → decoded p xs ≡ fs
are_in p xs fs n fault is =
    let whole = each_is_read p xs in
    (one_reading p xs (decoded p xs) fs whole.0 n whole.1 fault whole.2 is).0

-- parts without frames
same_frames : (p q : StreamPosition) (xs ys : List ℕ) (s t : ℕ) → Reached p xs q ys s t
    → decoded q ys ≡ decoded p xs
same_frames p q xs ys s t (n, front, pass, e, counted) =
    let rest = each_is_read q ys in
    let P : List ℕ → Type 0 = λ z. IsStream p z (decoded q ys) (n + rest.0) rest.1 in
    sym (are_in p xs (decoded q ys) (n + rest.0) rest.1
    (subst P (sym e) (stream_behind_parts p q n rest.0 front ys (decoded q ys) rest.1 pass rest.2)))

-- a part with a frame
pub next_frame : (p q : StreamPosition) (xs ys f : List ℕ) (s t : ℕ) → Given p xs q ys s t f
    → decoded p xs ≡ f ∷ decoded q ys
next_frame p q xs ys f s t (n, front, part, pass, is, e, counted) =
    let rest = each_is_read q ys in
    are_in p xs (f ∷ decoded q ys) (n + rest.0) rest.1 (q, front, part, ys, n, rest.0, pass, is, e, rest.2, refl)

-- the end or a fault
no_frames : (p q : StreamPosition) (xs ys : List ℕ) (s t : ℕ) (fault : Option PortFault) → Reached p xs q ys s t
    → Ends q ys fault → decoded p xs ≡ []
no_frames p q xs ys s t fault (n, front, pass, e, counted) ends =
    are_in p xs [] n fault (q, front, ys, pass, e, ends)

-- a poll of a reader that has not ended
reads_now : (r : Polled) (p q : StreamPosition) (xs ys : List ℕ) (s t : ℕ) → Polls r p (Some xs) q (Some ys) s t
    → ReadsFrames r (decoded p xs) (still_to_come (ending_of r) (decoded q ys))
reads_now (Frame f) p q xs ys s t read = next_frame p q xs ys f s t read
reads_now Nothing p q xs ys s t read = same_frames p q xs ys s t read
reads_now End p q xs ys s t (read, none, sound) =
    (no_frames p q xs ys s t None read (sound, λ _. none), refl)
reads_now (Fault Read) p q xs ys s t (read, broken) = (same_frames p q xs ys s t read, λ of. absurd of)
reads_now (Fault Write) p q xs ys s t (read, broken) = (same_frames p q xs ys s t read, λ of. absurd of)
reads_now (Fault Memory) p q xs ys s t (read, broken) = (same_frames p q xs ys s t read, λ of. absurd of)
reads_now (Fault Magic) p q xs ys s t (read, broken) =
    (sym (no_frames p q xs ys s t (Some Magic) read (broken tt, λ none. cc)), λ of. refl)
reads_now (Fault Version) p q xs ys s t (read, broken) =
    (sym (no_frames p q xs ys s t (Some Version) read (broken tt, λ none. cc)), λ of. refl)
reads_now (Fault LinkType) p q xs ys s t (read, broken) =
    (sym (no_frames p q xs ys s t (Some LinkType) read (broken tt, λ none. cc)), λ of. refl)
reads_now (Fault Truncated) p q xs ys s t (read, broken) =
    (sym (no_frames p q xs ys s t (Some Truncated) read (broken tt, λ none. cc)), λ of. refl)
reads_now (Fault Oversize) p q xs ys s t (read, broken) =
    (sym (no_frames p q xs ys s t (Some Oversize) read (broken tt, λ none. cc)), λ of. refl)

-- octets that were known stay known
never_forgotten : {X : Type 0} (r : Polled) (p q : StreamPosition) (xs : List ℕ) (s t : ℕ)
    → Polls r p (Some xs) q None s t → X
never_forgotten (Frame f) p q xs s t read = absurd read
never_forgotten Nothing p q xs s t read = absurd read
never_forgotten End p q xs s t read = absurd read.0
never_forgotten (Fault k) p q xs s t read = absurd read.0

reads_first : (r : Polled) (p q : StreamPosition) (h h' : List ℕ) (d d' : Option (List ℕ)) (s t : ℕ)
    → Polls r p (prepend_known h d) q (prepend_known h' d') s t
    → ReadsKnown r (frames_left None p (prepend_known h d)) (frames_left (ending_of r) q (prepend_known h' d'))
reads_first r p q h h' None d' s t read = tt
reads_first r p q h h' (Some xs) None s t read = never_forgotten r p q (h ++ xs) s t read
reads_first r p q h h' (Some xs) (Some ys) s t read = reads_now r p q (h ++ xs) (h' ++ ys) s t read

-- a poll of a reader that has ended
reads_no_more : (e : Ending) (p : StreamPosition) (x : Option (List ℕ))
    → ReadsKnown (answer_of e) (frames_left (Some e) p x) (frames_left (Some e) p x)
reads_no_more e p None = tt
reads_no_more ending_end p (Some xs) = (refl, refl)
reads_no_more (ending_fault Read) p (Some xs) = (refl, λ of. absurd of)
reads_no_more (ending_fault Write) p (Some xs) = (refl, λ of. absurd of)
reads_no_more (ending_fault Memory) p (Some xs) = (refl, λ of. absurd of)
reads_no_more (ending_fault Magic) p (Some xs) = (refl, λ of. refl)
reads_no_more (ending_fault Version) p (Some xs) = (refl, λ of. refl)
reads_no_more (ending_fault LinkType) p (Some xs) = (refl, λ of. refl)
reads_no_more (ending_fault Truncated) p (Some xs) = (refl, λ of. refl)
reads_no_more (ending_fault Oversize) p (Some xs) = (refl, λ of. refl)

pub polled_frames : (r : Polled) (e e' : Option Ending) (p q : StreamPosition) (h h' : List ℕ)
    (d d' : Option (List ℕ)) (s t : ℕ)
    → MatchOption e (Polls r p (prepend_known h d) q (prepend_known h' d') s t)
    (λ _. (q ≡ p) × (h' ≡ h) × (d' ≡ d) × (t ≡ s))
    → EndedBy r e e'
    → ReadsKnown r (frames_left e p (prepend_known h d)) (frames_left e' q (prepend_known h' d'))
polled_frames r None e' p q h h' d d' s t read (is, of) =
    let P : Option Ending → Type 0 = λ z.
    ReadsKnown r (frames_left None p (prepend_known h d)) (frames_left z q (prepend_known h' d')) in
    subst P (sym is) (reads_first r p q h h' d d' s t read)
polled_frames r (Some e) e' p q h h' d d' s t (at, held, left, counted) (is, kept) =
    rw (is, kept, at, held, left) (reads_no_more e p (prepend_known h d))
