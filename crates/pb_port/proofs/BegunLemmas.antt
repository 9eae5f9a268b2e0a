-- What is begun of a frame contains no whole frame, for `what_was_sent_is_read`.
use Rattle.std.proofs.Common.{◌≡◌, ℕ, zero, suc, ◌+◌, ◌-◌, ◌<◌, ◌≤◌, ◌⊎◌, inl, inr, Bool, true, false, nat_lt, eqb}
use Rattle.std.proofs.Common.{ne_eqb}
use Rattle.std.proofs.Common.{List, [], ◌∷◌, ◌++◌, All, length, take, drop, refl, sym, ap, ◌∙◌, arith, length-take}
use Rattle.std.proofs.Common.{length-append, Option, Some, None}
use Rattle.std.proofs.Math.Seq.{take-append-add}
use Rattle.std.proofs.lemmas.Bool.{cases_lt, le-ltb, lt-ltb}
use Rattle.std.proofs.lemmas.List.{take-append-drop}
use Rattle.std.proofs.lemmas.List.Elements.{All-head}
use Rattle.pb_port.specs.declared.fault.PortFault.{PortFault}
use Rattle.pb_port.specs.declared.fault.PortFault.TheVariants.{Truncated}
use Rattle.pb_port.specs.declared.framing.Framing.{Framing}
use Rattle.pb_port.specs.declared.framing.Framing.TheVariants.{Capture, Socket}
use Rattle.pb_port.specs.declared.framing.LengthField.{LengthField}
use Rattle.pb_port.specs.declared.sender.Sender.{Sender}
use Rattle.pb_port.specs.declared.stream_position.ByteOrder.{ByteOrder}
use Rattle.pb_port.specs.declared.stream_position.ByteOrder.TheVariants.{Little}
use Rattle.pb_port.specs.declared.stream_position.StreamPosition.{StreamPosition}
use Rattle.pb_port.specs.declared.stream_position.StreamPosition.TheVariants.{Header, Records, Lengths}
use Rattle.pb_port.specs.Fronts.{number-front, framed-front}
use Rattle.pb_port.specs.Inputs.{decoded}
use Rattle.pb_port.specs.LengthFields.{octets_of}
use Rattle.pb_port.specs.Ports.{Frames}
use Rattle.pb_port.specs.Readable.{nothing_passed}
use Rattle.pb_port.specs.Sending.{begun}
use Rattle.pb_port.specs.Spelling.{file_header, record_head, spelled, first_of}
use Rattle.pb_port.specs.Streams.{captured, fault_at, framed, IsRecord, IsFramed}
use Rattle.pb_port.specs.Whole.{Ends}
use Rattle.pb_port.specs.Written.{position_of}
use Rattle.pb_port.proofs.InputLemmas.{are_in}
use Rattle.pb_port.proofs.WrittenLemmas.{header_written, record_written, frame_written}

-- an input that ends here, or has a fault here
none_at : (p : StreamPosition) (xs : List ℕ) (fault : Option PortFault) → Ends p xs fault → decoded p xs ≡ []
none_at p xs fault ends = are_in p xs [] 0 fault (p, [], xs, nothing_passed p, refl, ends)

-- a beginning of a record, which is not the whole of it
record_cut : (order : ByteOrder) (whole : List ℕ) (k : ℕ) → IsRecord order whole → k < length whole → 0 < k
    → (k < 16) ⊎ (16 ≤ k) → fault_at (Records order) (take k whole) ≡ Some Truncated
record_cut order whole k is below some (inl short) =
    let long : length (take k whole) ≡ k = omega (arith, length-take k whole, below) in
    let any : eqb (length (take k whole)) 0 ≡ false = ne_eqb (length (take k whole)) 0
    (λ q. omega (arith, q, long, some)) in
    let first : nat_lt (length (take k whole)) 16 ≡ true = lt-ltb (length (take k whole)) 16
    (omega (arith, long, short)) in
    rw (any, first) refl
record_cut order whole k is below some (inr head) =
    let part = take k whole in
    let long : length part ≡ k = omega (arith, length-take k whole, below) in
    let same : captured order whole ≡ captured order part =
    sym (ap (λ z. captured order z) (take-append-drop k whole))
    ∙ number-front order 4 8 part (drop k whole) (omega (arith, long, head)) in
    let any : eqb (length part) 0 ≡ false = ne_eqb (length part) 0 (λ q. omega (arith, q, long, some)) in
    let first : nat_lt (length part) 16 ≡ false = le-ltb (length part) 16 (omega (arith, long, head)) in
    let low : nat_lt 262144 (captured order part) ≡ false =
    le-ltb 262144 (captured order part) (omega (arith, same, is.limit)) in
    let all : nat_lt (length part) (16 + captured order part) ≡ true =
    lt-ltb (length part) (16 + captured order part) (omega (arith, long, same, is.long, below)) in
    rw (any, first, low, all) refl

record_ends : (order : ByteOrder) (whole : List ℕ) (k : ℕ) → IsRecord order whole → k < length whole
    → (fault : Option PortFault) × Ends (Records order) (take k whole) fault
record_ends order whole zero is below = (None, (refl, λ none. refl))
record_ends order whole (suc k) is below = (
  Some Truncated,
  (record_cut order whole (suc k) is below (omega arith) (cases_lt (suc k) 16), λ none. cc),
)

-- a beginning of a frame of a stream, which is not the whole of it
framed_cut : (field : LengthField) (whole f : List ℕ) (k : ℕ) → IsFramed field whole f → k < length whole → 0 < k
    → (k < octets_of field) ⊎ (octets_of field ≤ k) → fault_at (Lengths field) (take k whole) ≡ Some Truncated
framed_cut field whole f k is below some (inl short) =
    let long : length (take k whole) ≡ k = omega (arith, length-take k whole, below) in
    let any : eqb (length (take k whole)) 0 ≡ false = ne_eqb (length (take k whole)) 0
    (λ q. omega (arith, q, long, some)) in
    let first : nat_lt (length (take k whole)) (octets_of field) ≡ true =
    lt-ltb (length (take k whole)) (octets_of field) (omega (arith, long, short)) in
    rw (any, first) refl
framed_cut field whole f k is below some (inr head) =
    let part = take k whole in
    let long : length part ≡ k = omega (arith, length-take k whole, below) in
    let same : framed field whole ≡ framed field part =
    sym (ap (λ z. framed field z) (take-append-drop k whole))
    ∙ framed-front field part (drop k whole) (omega (arith, long, head)) in
    let any : eqb (length part) 0 ≡ false = ne_eqb (length part) 0 (λ q. omega (arith, q, long, some)) in
    let first : nat_lt (length part) (octets_of field) ≡ false =
    le-ltb (length part) (octets_of field) (omega (arith, long, head)) in
    let low : nat_lt 65535 (framed field part) ≡ false =
    le-ltb 65535 (framed field part) (omega (arith, same, is.limit)) in
    let all : nat_lt (length part) (octets_of field + framed field part) ≡ true =
    lt-ltb (length part) (octets_of field + framed field part) (omega (arith, long, same, is.long, below)) in
    rw (any, first, low, all) refl

framed_ends : (field : LengthField) (whole f : List ℕ) (k : ℕ) → IsFramed field whole f → k < length whole
    → (fault : Option PortFault) × Ends (Lengths field) (take k whole) fault
framed_ends field whole f zero is below = (None, (refl, λ none. refl))
framed_ends field whole f (suc k) is below = (
  Some Truncated,
  (framed_cut field whole f (suc k) is below (omega arith) (cases_lt (suc k) (octets_of field)), λ none. cc),
)

-- a beginning of the header of a capture and its first record, which is not the whole of them
capture_cut : (part : List ℕ) (k : ℕ) → IsRecord Little part → k < length (file_header ++ part)
    → (k < 24) ⊎ (24 ≤ k) → decoded Header (take k (file_header ++ part)) ≡ []
capture_cut part k is below (inl short) =
    let xs = take k (file_header ++ part) in
    let long : length xs ≡ k = omega (arith, length-take k (file_header ++ part), below) in
    let first : nat_lt (length xs) 24 ≡ true = lt-ltb (length xs) 24 (omega (arith, long, short)) in
    none_at Header xs (Some Truncated) (rw first refl, λ none. cc)
capture_cut part k is below (inr head) =
    let j = k - 24 in
    let below_part : j < length part = omega (arith, below, head, length-append file_header part) in
    let ends = record_ends Little part j is below_part in
    let count : length file_header + j ≡ k = omega (arith, head) in
    let parts : take k (file_header ++ part) ≡ file_header ++ take j part =
    ap (λ n. take n (file_header ++ part)) (sym count) ∙ take-append-add file_header part j in
    are_in Header (take k (file_header ++ part)) [] 0 ends.0
    (Records Little, file_header, take j part, (file_header, [], header_written, refl, refl), parts, ends.1)

cut_none : (framing : Framing) (fresh : Bool) (micros : ℕ) (f : List ℕ) (k : ℕ) → length f < 65536
    → k < length (spelled framing fresh micros f)
    → decoded (position_of framing fresh) (take k (spelled framing fresh micros f)) ≡ []
cut_none Capture true micros f k short below =
    let is = record_written micros f short in
    capture_cut (record_head micros (length f) ++ f) k is.whole below (cases_lt k 24)
cut_none Capture false micros f k short below =
    let is = record_written micros f short in
    let ends = record_ends Little (record_head micros (length f) ++ f) k is.whole below in
    none_at (Records Little) (take k (record_head micros (length f) ++ f)) ends.0 ends.1
cut_none (Socket field) fresh micros f k short below =
    let whole = spelled (Socket field) fresh micros f in
    let ends = framed_ends field whole f k (frame_written field f short) below in
    none_at (Lengths field) (take k whole) ends.0 ends.1

first_short : (frames : Frames) → All (λ f. length f < 65536) frames → length (first_of frames) < 65536
first_short [] all = omega arith
first_short (f ∷ frames) all = All-head (λ (x : List ℕ). length x < 65536) f frames all

-- what a sender has begun
pub begun_none : (w : Sender) → decoded (position_of w.framing w.fresh) (begun w) ≡ []
begun_none w = cut_none w.framing w.fresh w.stamp (first_of w.unsent.items) w.done
    (first_short w.unsent.items w.short) w.within

pub nothing_none : (p : StreamPosition) → decoded p [] ≡ []
nothing_none Header = none_at Header [] (Some Truncated) (refl, λ none. cc)
nothing_none (Records order) = none_at (Records order) [] None (refl, λ none. refl)
nothing_none (Lengths field) = none_at (Lengths field) [] None (refl, λ none. refl)
