-- The frames that begin in some octets add up, for `count_begun`.
use Rattle.std.proofs.Common.{◌≡◌, ℕ, ◌+◌, ◌<◌, ◌≤◌, ◌==◌, eqb, ne_eqb, true, false, List, [], ◌∷◌, length}
use Rattle.std.proofs.Common.{take, drop, refl, sym, ap, ◌∙◌, subst, arith, append-nil, length-take, length-drop}
use Rattle.std.proofs.Common.{Option}
use Rattle.std.proofs.Common.{Some, None}
use Rattle.std.proofs.lemmas.List.{take-append-drop}
use Rattle.pb_port.specs.declared.fault.PortFault.{PortFault}
use Rattle.pb_port.specs.declared.fault.PortFault.TheVariants.{Truncated}
use Rattle.pb_port.specs.declared.framing.LengthField.{LengthField}
use Rattle.pb_port.specs.declared.stream_position.StreamPosition.TheVariants.{Lengths}
use Rattle.pb_port.specs.declared.stream_position.Look.{Look}
use Rattle.pb_port.specs.declared.stream_position.Look.TheVariants.{Short, Header, Skipped, Frame, Fault}
use Rattle.pb_port.specs.Beginning.{Begins}
use Rattle.pb_port.specs.Ports.{Frames}
use Rattle.pb_port.specs.Streams.{Shows, fault_at, unfinished}
use Rattle.pb_port.specs.Whole.{IsStream}
use Rattle.pb_port.specs.Fronts.{some_octets}

-- the reading of all octets has n frames more than that of the rest
abbrev pub Counts : LengthField → ℕ → List ℕ → List ℕ → Type 0
Counts field n octets rest =
    (fs : Frames) (fault : Option PortFault) → IsStream (Lengths field) rest fs 0 fault
    → (gs : Frames) × IsStream (Lengths field) octets gs 0 fault × (length gs ≡ n + length fs)

-- a frame at the front of the rest
pub counts_frame : (field : LengthField) (n head k : ℕ) (octets rest : List ℕ) → Counts field n octets rest
    → Shows (Lengths field) rest (Frame head k) → Counts field (n + 1) octets (drop k rest)
counts_frame field n head k octets rest counts (ordered, within, is) = λ fs fault more.
    let whole : IsStream (Lengths field) rest (drop head (take k rest) ∷ fs) 0 fault = (
      Lengths field,
      [],
      take k rest,
      drop k rest,
      0,
      0,
      (refl, refl, refl),
      is,
      sym (take-append-drop k rest),
      more,
      refl,
    ) in
    let found = counts (drop head (take k rest) ∷ fs) fault whole in
    (found.0, found.1, omega (arith, found.2))

-- a frame has at least the octets of its length
pub frame_moves : (field : LengthField) (head k : ℕ) (rest : List ℕ) → Shows (Lengths field) rest (Frame head k)
    → length (drop k rest) + 1 ≤ length rest
frame_moves field head k rest (ordered, within, is) =
    omega (arith, is.long, length-take k rest, length-drop k rest, some_octets field)

-- the rest is cut off
cut_here : (field : LengthField) (n : ℕ) (octets rest : List ℕ) (k : PortFault) → Counts field n octets rest
    → fault_at (Lengths field) rest ≡ Some k → Begins field octets (n + 1)
cut_here field n octets rest k counts is =
    let found = counts [] (Some k) (Lengths field, [], rest, (refl, refl, refl), refl, (is, λ none. cc)) in
    (found.0, Some k, found.1, omega (arith, found.2))

short_is : (field : LengthField) (m : ℕ) → 0 < m → unfinished (Lengths field) m ≡ Some Truncated
short_is field m some =
    let no : eqb m 0 ≡ false = ne_eqb m 0 (λ q. omega arith) in
    rw no refl

-- no complete frame is at the front of the rest
pub begins_cut : (field : LengthField) (look : Look) (n : ℕ) (octets rest : List ℕ) → Counts field n octets rest
    → Shows (Lengths field) rest look → ((head k : ℕ) → look ≡ Frame head k → ⊥) → 0 < length rest
    → Begins field octets (n + 1)
begins_cut field Short n octets rest counts shows not some =
    cut_here field n octets rest Truncated counts (shows ∙ short_is field (length rest) some)
begins_cut field (Header order) n octets rest counts (is, long, shows) not some = cc
begins_cut field (Skipped k) n octets rest counts (some', within, skips) not some = absurd skips
begins_cut field (Frame head k) n octets rest counts shows not some = absurd (not head k refl)
begins_cut field (Fault k) n octets rest counts (of, shows) not some =
    cut_here field n octets rest k counts (ap (λ z. fault_at (Lengths field) z) (sym (append-nil rest)) ∙ shows [])

-- nothing is left
pub begins_all : (field : LengthField) (n : ℕ) (octets rest : List ℕ) → Counts field n octets rest → rest ≡ []
    → Begins field octets n
begins_all field n octets rest counts none =
    let P : List ℕ → Type 0 = λ z. Counts field n octets z in
    let found = subst P none counts [] None (Lengths field, [], [], (refl, refl, refl), refl, (refl, λ q. refl)) in
    (found.0, None, found.1, omega (arith, found.2))

-- the test of a loop over the rest
pub some_left : (rest : List ℕ) → false ≡ (length rest == 0) → 0 < length rest
some_left [] e = cc
some_left (x ∷ rest) e = omega arith

pub none_left : (rest : List ℕ) → true ≡ (length rest == 0) → rest ≡ []
none_left [] e = refl
none_left (x ∷ rest) e =
    let no : eqb (length (x ∷ rest)) 0 ≡ false = ne_eqb (length (x ∷ rest)) 0 (λ q. omega arith) in
    let wrong : true ≡ false = e ∙ no in
    cc
