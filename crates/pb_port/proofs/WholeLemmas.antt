-- A stream has one reading, because its parts are decided by their lengths: for `streams_have_one_reading`.
use Rattle.std.proofs.Common.{◌≡◌, ℕ, zero, suc, ◌+◌, ◌<◌, ◌≤◌, false, nat_lt, List, [], ◌∷◌, ◌++◌, length, take}
use Rattle.std.proofs.Common.{drop, refl, sym, ap, ◌∙◌, subst, append_assoc, arith, length-append, Option, Some, None}
use Rattle.std.proofs.Common.{ne_eqb, eqb}
use Rattle.std.specs.Prelude.{⊤}
use Rattle.std.proofs.lemmas.Bool.{le-ltb}
use Rattle.std.proofs.Math.Seq.{take-append_seam, drop-append_seam}
use Rattle.byteorder.specs.Endian.{big_number}
use Rattle.pb_port.specs.declared.fault.PortFault.{PortFault}
use Rattle.pb_port.specs.declared.framing.LengthField.{LengthField}
use Rattle.pb_port.specs.declared.stream_position.ByteOrder.{ByteOrder}
use Rattle.pb_port.specs.declared.stream_position.StreamPosition.{StreamPosition}
use Rattle.pb_port.specs.declared.stream_position.StreamPosition.TheVariants.{Header, Records, Lengths}
use Rattle.pb_port.specs.LengthFields.{octets_of}
use Rattle.pb_port.specs.Ports.{Frames}
use Rattle.pb_port.specs.Streams.{captured, original, byte_order_of, fault_at, Passes, AreSkipped, IsHeader, IsRecord}
use Rattle.pb_port.specs.Streams.{IsSkipped, IsFrame, IsFramed, framed}
use Rattle.pb_port.specs.Whole.{Ends, IsStream}
use Rattle.pb_port.specs.Fronts.{number-front, header_fault-front, framed-front, some_octets}

append_parts : (a b x y : List ℕ) → length a ≡ length b → a ++ x ≡ b ++ y → (a ≡ b) × (x ≡ y)
append_parts a b x y same e = (
  sym (take-append_seam a x) ∙ ap (λ z. take (length a) z) e ∙ ap (λ n. take n (b ++ y)) same ∙ take-append_seam b y,
  sym (drop-append_seam a x) ∙ ap (λ z. drop (length a) z) e ∙ ap (λ n. drop n (b ++ y)) same ∙ drop-append_seam b y,
)

record_same : (order : ByteOrder) (a b x y : List ℕ) → IsRecord order a → IsRecord order b → a ++ x ≡ b ++ y
    → (a ≡ b) × (x ≡ y)
record_same order a b x y is is' e =
    let here : captured order (a ++ x) ≡ captured order a = number-front order 4 8 a x (omega arith) in
    let there : captured order (b ++ y) ≡ captured order b = number-front order 4 8 b y (omega arith) in
    let same : captured order a ≡ captured order b = sym here ∙ ap (λ z. captured order z) e ∙ there in
    append_parts a b x y (omega arith) e

frame_same : (p : StreamPosition) (a b f g x y : List ℕ) → IsFrame p a f → IsFrame p b g → a ++ x ≡ b ++ y
    → (f ≡ g) × (x ≡ y)
frame_same Header a b f g x y is is' e = absurd is
frame_same (Records order) a b f g x y is is' e =
    let parts = record_same order a b x y is.whole is'.whole e in
    (is.content ∙ ap (λ z. drop 16 z) parts.0 ∙ sym is'.content, parts.1)
frame_same (Lengths field) a b f g x y is is' e =
    let here : framed field (a ++ x) ≡ framed field a = framed-front field a x (omega (arith, is.long)) in
    let there : framed field (b ++ y) ≡ framed field b = framed-front field b y (omega (arith, is'.long)) in
    let same : framed field a ≡ framed field b = sym here ∙ ap (λ z. framed field z) e ∙ there in
    let parts = append_parts a b x y (omega (arith, is.long, is'.long)) e in
    (is.content ∙ ap (λ z. drop (octets_of field) z) parts.0 ∙ sym is'.content, parts.1)

-- a complete part has no fault
header_sound : (order : ByteOrder) (a x : List ℕ) → IsHeader order a → fault_at Header (a ++ x) ≡ None
header_sound order a x is =
    let long : nat_lt (length (a ++ x)) 24 ≡ false = le-ltb (length (a ++ x)) 24 (omega (arith, length-append a x)) in
    rw long (header_fault-front a x (omega arith) ∙ is.sound)

record_sound : (order : ByteOrder) (a x : List ℕ) → IsRecord order a → fault_at (Records order) (a ++ x) ≡ None
record_sound order a x is =
    let same : captured order (a ++ x) ≡ captured order a = number-front order 4 8 a x (omega arith) in
    let some : eqb (length (a ++ x)) 0 ≡ false = ne_eqb (length (a ++ x)) 0 (λ q. omega (arith, length-append a x)) in
    let first : nat_lt (length (a ++ x)) 16 ≡ false = le-ltb (length (a ++ x)) 16 (omega (arith, length-append a x)) in
    let low : nat_lt 262144 (captured order (a ++ x)) ≡ false = le-ltb 262144 (captured order (a ++ x)) (omega arith) in
    let all : nat_lt (length (a ++ x)) (16 + captured order (a ++ x)) ≡ false =
    le-ltb (length (a ++ x)) (16 + captured order (a ++ x)) (omega (arith, length-append a x)) in
    rw (some, first, low, all) refl

framed_sound : (field : LengthField) (a x f : List ℕ) → IsFramed field a f
    → fault_at (Lengths field) (a ++ x) ≡ None
framed_sound field a x f is =
    let n = framed field (a ++ x) in
    let same : n ≡ framed field a = framed-front field a x (omega (arith, is.long)) in
    let some : eqb (length (a ++ x)) 0 ≡ false = ne_eqb (length (a ++ x)) 0
    (λ q. omega (arith, is.long, length-append a x, some_octets field)) in
    let first : nat_lt (length (a ++ x)) (octets_of field) ≡ false =
    le-ltb (length (a ++ x)) (octets_of field) (omega (arith, is.long, length-append a x)) in
    let low : nat_lt 65535 n ≡ false = le-ltb 65535 n (omega (arith, is.limit)) in
    let all : nat_lt (length (a ++ x)) (octets_of field + n) ≡ false =
    le-ltb (length (a ++ x)) (octets_of field + n) (omega (arith, is.long, length-append a x)) in
    rw (some, first, low, all) refl

frame_sound : (p : StreamPosition) (a x f : List ℕ) → IsFrame p a f → fault_at p (a ++ x) ≡ None
frame_sound Header a x f is = absurd is
frame_sound (Records order) a x f is = record_sound order a x is.whole
frame_sound (Lengths field) a x f is = framed_sound field a x f is

frame_long : (p : StreamPosition) (a f : List ℕ) → IsFrame p a f → 0 < length a
frame_long Header a f is = absurd is
frame_long (Records order) a f is = omega (arith, is.whole)
frame_long (Lengths field) a f is = omega (arith, is.long, some_octets field)

-- if the input ends or has a fault, no complete part is at its front
ends_short : (p : StreamPosition) (rest a x : List ℕ) (fault : Option PortFault) → Ends p rest fault → rest ≡ a ++ x
    → 0 < length a
    → fault_at p (a ++ x) ≡ None → ⊥
ends_short p rest a x fault (here, none) e long sound =
    let is_none : fault ≡ None = sym here ∙ ap (λ z. fault_at p z) e ∙ sound in
    let empty : a ++ x ≡ [] = sym e ∙ none is_none in
    omega (arith, length-append a x, ap length empty)

-- no part without a frame is at the front
abbrev Stops : StreamPosition → List ℕ → Type 0
Stops Header rest = (order : ByteOrder) (header more : List ℕ) → IsHeader order header → rest ≡ header ++ more → ⊥
Stops (Records order) rest = (first more : List ℕ) → IsSkipped order first → rest ≡ first ++ more → ⊥
Stops (Lengths field) rest = ⊤

ends_stop : (p : StreamPosition) (rest : List ℕ) (fault : Option PortFault) → Ends p rest fault → Stops p rest
ends_stop Header rest fault ends = λ order header more is e.
    ends_short Header rest header more fault ends e (omega arith) (header_sound order header more is)
ends_stop (Records order) rest fault ends = λ first more is e.
    ends_short (Records order) rest first more fault ends e (omega (arith, is.whole))
    (record_sound order first more is.whole)
ends_stop (Lengths field) rest fault ends = tt

frame_stops : (p : StreamPosition) (part rest f : List ℕ) → IsFrame p part f → Stops p (part ++ rest)
frame_stops Header part rest f is = absurd is
frame_stops (Records order) part rest f is = λ first more skipped e.
    let parts = record_same order part first rest more is.whole skipped.whole e in
    let P : List ℕ → Type 0 = λ z. captured order z < original order z in
    let cut : captured order part < original order part = subst P (sym parts.0) skipped.cut in
    let full : original order part ≤ captured order part = is.full in
    omega arith
frame_stops (Lengths field) part rest f is = tt

skips_same : (order : ByteOrder) (m n : ℕ) (xs ys rest rest' : List ℕ) → AreSkipped order m xs → AreSkipped order n ys
    → Stops (Records order) rest → Stops (Records order) rest' → xs ++ rest ≡ ys ++ rest' → (m ≡ n) × (rest ≡ rest')
skips_same order zero zero xs ys rest rest' a b stop stop' e =
    (refl, sym (ap (λ z. z ++ rest) a) ∙ e ∙ ap (λ z. z ++ rest') b)
skips_same order zero (suc n) xs ys rest rest' a (first, more, is, left, parts) stop stop' e =
    absurd (stop first (more ++ rest') is (sym (ap (λ z. z ++ rest) a) ∙ e ∙ ap (λ z. z ++ rest') parts ∙ append_assoc
    first more rest'))
skips_same order (suc m) zero xs ys rest rest' (first, more, is, left, parts) b stop stop' e =
    absurd (stop' first (more ++ rest) is (sym (ap (λ z. z ++ rest') b) ∙ sym e ∙ ap (λ z. z ++ rest) parts
    ∙ append_assoc first more rest))
skips_same order (suc m) (suc n) xs ys rest rest' (first, more, is, left, parts) (first', more', is', left', parts')
    stop stop' e =
    let whole : first ++ (more ++ rest) ≡ first' ++ (more' ++ rest') =
    sym (ap (λ z. z ++ rest) parts ∙ append_assoc first more rest) ∙ e ∙ ap (λ z. z ++ rest') parts'
    ∙ append_assoc first' more' rest' in
    let both = record_same order first first' (more ++ rest) (more' ++ rest') is.whole is'.whole whole in
    let next = skips_same order m n more more' rest rest' left left' stop stop' both.1 in
    (ap suc next.0, next.1)

-- two headers at one front are the same, and so are the records after them
headers_same : (o o' : ByteOrder) (m n : ℕ) (header header' xs ys rest rest' : List ℕ) → IsHeader o header
    → IsHeader o' header'
    → AreSkipped o m xs → AreSkipped o' n ys → Stops (Records o) rest → Stops (Records o') rest'
    → header ++ (xs ++ rest) ≡ header' ++ (ys ++ rest') → (Records o ≡ Records o') × (m ≡ n) × (rest ≡ rest')
headers_same o o' m n header header' xs ys rest rest' is is' a b stop stop' e =
    let both = append_parts header header' (xs ++ rest) (ys ++ rest') (omega arith) e in
    let magic : Some o ≡ Some o' = sym is.magic ∙ ap (λ z. byte_order_of (big_number 4 z)) both.0 ∙ is'.magic in
    let same : o ≡ o' = cc in
    let P : ByteOrder → Type 0 = λ z. AreSkipped z n ys in
    let Q : ByteOrder → Type 0 = λ z. Stops (Records z) rest' in
    let next = skips_same o m n xs ys rest rest' a (subst P (sym same) b) stop (subst Q (sym same) stop') both.1 in
    (ap (λ z. Records z) same, next.0, next.1)

passes_same : (p q q' : StreamPosition) (m n : ℕ) (xs ys rest rest' : List ℕ) → Passes p xs q m → Passes p ys q' n
    → Stops q rest → Stops q' rest'
    → xs ++ rest ≡ ys ++ rest' → (q ≡ q') × (m ≡ n) × (rest ≡ rest')
passes_same Header Header Header m n xs ys rest rest' (a, zero_m) (b, zero_n) stop stop' e =
    (refl, zero_m ∙ sym zero_n, sym (ap (λ z. z ++ rest) a) ∙ e ∙ ap (λ z. z ++ rest') b)
passes_same Header Header (Records o) m n xs ys rest rest' (a, zero_m) (header, records, is, skipped, parts) stop
    stop' e =
    absurd (stop o header (records ++ rest') is (sym (ap (λ z. z ++ rest) a) ∙ e ∙ ap (λ z. z ++ rest') parts
    ∙ append_assoc header records rest'))
passes_same Header Header (Lengths field) m n xs ys rest rest' a b stop stop' e = absurd b
passes_same Header (Records o) Header m n xs ys rest rest' (header, records, is, skipped, parts) (b, zero_n) stop
    stop' e =
    absurd (stop' o header (records ++ rest) is (sym (ap (λ z. z ++ rest') b) ∙ sym e ∙ ap (λ z. z ++ rest) parts
    ∙ append_assoc header records rest))
passes_same Header (Records o) (Records o') m n xs ys rest rest' (header, records, is, skipped, parts)
    (header', records', is', skipped', parts') stop stop' e =
    headers_same o o' m n header header' records records' rest rest' is is' skipped skipped' stop stop'
    (sym (ap (λ z. z ++ rest) parts ∙ append_assoc header records rest) ∙ e ∙ ap (λ z. z ++ rest') parts'
    ∙ append_assoc header' records' rest')
passes_same Header (Records o) (Lengths field) m n xs ys rest rest' a b stop stop' e = absurd b
passes_same Header (Lengths field) q' m n xs ys rest rest' a b stop stop' e = absurd a
passes_same (Records o) (Records o1) (Records o2) m n xs ys rest rest' (one, a) (two, b) stop stop' e =
    let P : ByteOrder → Type 0 = λ z. Stops (Records z) rest in
    let Q : ByteOrder → Type 0 = λ z. Stops (Records z) rest' in
    let next = skips_same o m n xs ys rest rest' a b (subst P one stop) (subst Q two stop') e in
    (ap (λ z. Records z) (one ∙ sym two), next.0, next.1)
passes_same (Records o) (Records o1) Header m n xs ys rest rest' a b stop stop' e = absurd b
passes_same (Records o) (Records o1) (Lengths field) m n xs ys rest rest' a b stop stop' e = absurd b
passes_same (Records o) Header q' m n xs ys rest rest' a b stop stop' e = absurd a
passes_same (Records o) (Lengths field) q' m n xs ys rest rest' a b stop stop' e = absurd a
passes_same (Lengths f) (Lengths f1) (Lengths f2) m n xs ys rest rest' (one, a, zero_m) (two, b, zero_n) stop stop' e =
    let same : Lengths f1 ≡ Lengths f2 = ap (λ z. Lengths z) (one ∙ sym two) in
    (same, zero_m ∙ sym zero_n, sym (ap (λ z. z ++ rest) a) ∙ e ∙ ap (λ z. z ++ rest') b)
passes_same (Lengths f) (Lengths f1) Header m n xs ys rest rest' a b stop stop' e = absurd b
passes_same (Lengths f) (Lengths f1) (Records o) m n xs ys rest rest' a b stop stop' e = absurd b
passes_same (Lengths f) Header q' m n xs ys rest rest' a b stop stop' e = absurd a
passes_same (Lengths f) (Records o) q' m n xs ys rest rest' a b stop stop' e = absurd a

-- one reading cannot end at a position at which the other has a frame
end_or_frame : (p q q' : StreamPosition) (m n : ℕ) (xs ys rest part rest' f : List ℕ) (fault : Option PortFault)
    → Passes p xs q m
    → Passes p ys q' n
    → Ends q rest fault → IsFrame q' part f → xs ++ rest ≡ ys ++ (part ++ rest') → ⊥
end_or_frame p q q' m n xs ys rest part rest' f fault pass pass' ends is e =
    let same = passes_same p q q' m n xs ys rest (part ++ rest') pass pass' (ends_stop q rest fault ends)
    (frame_stops q' part rest' f is) e in
    let P : StreamPosition → Type 0 = λ z. Ends z rest fault in
    ends_short q' rest part rest' fault (subst P same.0 ends) same.2 (frame_long q' part f is)
    (frame_sound q' part rest' f is)

pub one_reading : (p : StreamPosition) (octets : List ℕ) (fs gs : Frames) (m n : ℕ) (fault fault' : Option PortFault)
    → IsStream p octets fs m fault → IsStream p octets gs n fault' → (fs ≡ gs) × (m ≡ n) × (fault ≡ fault')
one_reading p octets [] [] m n fault fault' (q, front, rest, pass, e, ends) (q', front', rest', pass', e', ends') =
    let same = passes_same p q q' m n front front' rest rest' pass pass' (ends_stop q rest fault ends)
    (ends_stop q' rest' fault' ends') (sym e ∙ e') in
    let here : fault_at q rest ≡ fault_at q' rest' = ap (λ z. fault_at z rest) same.0
    ∙ ap (λ z. fault_at q' z) same.2 in
    (refl, same.1, sym ends.0 ∙ here ∙ ends'.0)
one_reading p octets [] (g ∷ gs) m n fault fault' (q, front, rest, pass, e, ends)
    (q', front', part', rest', k', more', pass', is', e', left', sum') =
    absurd (end_or_frame p q q' m k' front front' rest part' rest' g fault pass pass' ends is' (sym e ∙ e'))
one_reading p octets (f ∷ fs) [] m n fault fault' (q, front, part, rest, k, more, pass, is, e, left, sum)
    (q', front', rest', pass', e', ends') =
    absurd (end_or_frame p q' q n k front' front rest' part rest f fault' pass' pass ends' is (sym e' ∙ e))
one_reading p octets (f ∷ fs) (g ∷ gs) m n fault fault' (q, front, part, rest, k, more, pass, is, e, left, sum)
    (q', front', part', rest', k', more', pass', is', e', left', sum') =
    let same = passes_same p q q' k k' front front' (part ++ rest) (part' ++ rest') pass pass'
    (frame_stops q part rest f is) (frame_stops q' part' rest' g is') (sym e ∙ e') in
    let P : StreamPosition → Type 0 = λ z. IsFrame z part f in
    let both = frame_same q' part part' f g rest rest' (subst P same.0 is) is' same.2 in
    let Q : StreamPosition → Type 0 = λ z. IsStream z rest fs more fault in
    let R : List ℕ → Type 0 = λ z. IsStream q' z fs more fault in
    let next = one_reading q' rest' fs gs more more' fault fault' (subst R both.1 (subst Q same.0 left)) left' in
    let frames : (f ∷ fs) ≡ (g ∷ gs) = ap (λ z. z ∷ fs) both.0 ∙ ap (λ z. g ∷ z) next.0 in
    let counts : m ≡ n = sum ∙ ap (λ z. z + more) same.1 ∙ ap (λ z. k' + z) next.1 ∙ sym sum' in
    (frames, counts, next.2)
