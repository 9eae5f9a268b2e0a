-- Each input has a reading.
use Rattle.std.proofs.Common.{◌≡◌, ℕ, zero, suc, ◌+◌, ◌<◌, ◌≤◌, ◌⊎◌, inl, inr, true, false, nat_lt, eqb, ne_eqb, List}
use Rattle.std.proofs.Common.{[], ◌∷◌, ◌++◌, length, take, drop, refl, sym, ap, ◌∙◌, subst, append_assoc, append-nil}
use Rattle.std.proofs.Common.{arith, length-take, length-drop, zero-add, Option, Some, None}
use Rattle.std.proofs.Math.Nat.{suc-add}
use Rattle.std.proofs.lemmas.Bool.{cases_lt, le-ltb, lt-ltb}
use Rattle.std.proofs.lemmas.List.{take-append-drop}
use Rattle.byteorder.specs.Endian.{big_number}
use Rattle.pb_port.specs.declared.fault.PortFault.{PortFault}
use Rattle.pb_port.specs.declared.fault.PortFault.TheVariants.{Magic, Truncated, Oversize}
use Rattle.pb_port.specs.declared.framing.LengthField.{LengthField}
use Rattle.pb_port.specs.declared.stream_position.ByteOrder.{ByteOrder}
use Rattle.pb_port.specs.declared.stream_position.StreamPosition.{StreamPosition}
use Rattle.pb_port.specs.declared.stream_position.StreamPosition.TheVariants.{Header, Records, Lengths}
use Rattle.pb_port.specs.Fronts.{header_taken, skipped_taken, frame_taken, too_long, framed-front, some_octets}
use Rattle.pb_port.specs.LengthFields.{octets_of}
use Rattle.pb_port.specs.Ports.{Frames}
use Rattle.pb_port.specs.Streams.{captured, original, byte_order_of, fault_in, header_fault, fault_at, framed, Passes}
use Rattle.pb_port.specs.Streams.{AreSkipped, IsHeader, IsFrame, IsFramed}
use Rattle.pb_port.specs.Whole.{IsStream, Reading}

AreSkipped-append : (order : ByteOrder) (m n : ℕ) (xs ys : List ℕ) → AreSkipped order m xs → AreSkipped order n ys
    → AreSkipped order (m + n) (xs ++ ys)
AreSkipped-append order zero n xs ys a b = rw (a, zero-add n) b
AreSkipped-append order (suc m) n xs ys (first, rest, skipped, more, e) b =
    let whole : xs ++ ys ≡ first ++ (rest ++ ys) = rw e (append_assoc first rest ys) in
    rw (suc-add m n) (first, rest ++ ys, skipped, AreSkipped-append order m n rest ys more b, whole)

pub nothing_passed : (p : StreamPosition) → Passes p [] p 0
nothing_passed Header = (refl, refl)
nothing_passed (Records order) = (refl, refl)
nothing_passed (Lengths field) = (refl, refl, refl)

pub Passes-append : (p q r : StreamPosition) (m n : ℕ) (xs ys : List ℕ) → Passes p xs q m → Passes q ys r n
    → Passes p (xs ++ ys) r (m + n)
Passes-append Header Header r m n xs ys (a, b) more = rw (a, b, zero-add n) more
Passes-append Header (Records o) (Records o') m n xs ys (header, records, whole, skipped, e) (same, more) =
    let P : ByteOrder → Type 0 = λ z. IsHeader z header in
    let parts : xs ++ ys ≡ header ++ (records ++ ys) = rw e (append_assoc header records ys) in
    let Q : ByteOrder → Type 0 = λ z. AreSkipped z (m + n) (records ++ ys) in (
      header,
      records ++ ys,
      subst P (sym same) whole,
      subst Q (sym same)
          (AreSkipped-append o m n records ys skipped more),
      parts,
    )
Passes-append Header (Records o) Header m n xs ys a b = absurd b
Passes-append Header (Records o) (Lengths field) m n xs ys a b = absurd b
Passes-append Header (Lengths field) r m n xs ys a b = absurd a
Passes-append (Records o) (Records o') (Records o'') m n xs ys (same, skipped) (same', more) =
    let P : ByteOrder → Type 0 = λ z. AreSkipped z n ys in
    (same' ∙ same, AreSkipped-append o m n xs ys skipped (subst P same more))
Passes-append (Records o) (Records o') Header m n xs ys a b = absurd b
Passes-append (Records o) (Records o') (Lengths field) m n xs ys a b = absurd b
Passes-append (Records o) Header r m n xs ys a b = absurd a
Passes-append (Records o) (Lengths field) r m n xs ys a b = absurd a
Passes-append (Lengths f) (Lengths f') (Lengths f'') m n xs ys (same, none, zero_m) (same', none', zero_n) =
    (same' ∙ same, ap (λ z. z ++ ys) none ∙ none', omega arith)
Passes-append (Lengths f) (Lengths f') Header m n xs ys a b = absurd b
Passes-append (Lengths f) (Lengths f') (Records o) m n xs ys a b = absurd b
Passes-append (Lengths f) Header r m n xs ys a b = absurd a
Passes-append (Lengths f) (Records o) r m n xs ys a b = absurd a

-- parts without frames before a reading
pub stream_behind_parts : (p q : StreamPosition) (m n : ℕ) (front ys : List ℕ) (fs : Frames) (fault : Option PortFault)
    → Passes p front q m → IsStream q ys fs n fault
    → IsStream p (front ++ ys) fs (m + n) fault
stream_behind_parts p q m n front ys [] fault pass (r, front', rest, pass', e, ends) = (
  r,
  front ++ front',
  rest,
  Passes-append p q r m n front front' pass pass',
  ap (λ z. front ++ z) e ∙ sym (append_assoc front front' rest),
  ends,
)
stream_behind_parts p q m n front ys (f ∷ fs) fault pass (r, front', part, rest, k, more, pass', is, e, left, sum) = (
  r,
  front ++ front',
  part,
  rest,
  m + k,
  more,
  Passes-append p q r m k front front' pass pass',
  is,
  ap (λ z. front ++ z) e ∙ sym (append_assoc front front' (part ++ rest)),
  left,
  omega arith,
)

-- an input that ends here, or has a fault here
stops : (p : StreamPosition) (xs : List ℕ) (fault : Option PortFault) → fault_at p xs ≡ fault → (fault ≡ None → xs ≡ [])
    → Reading p xs
stops p xs fault is none = record {
  frames = [];
  skipped = 0;
  fault = fault;
  is = (p, [], xs, nothing_passed p, refl, (is, none));
}

breaks : (p : StreamPosition) (xs : List ℕ) (k : PortFault) → fault_at p xs ≡ Some k → Reading p xs
breaks p xs k is = stops p xs (Some k) is (λ none. cc)

-- a part of so many octets without a frame, before an input
passes_on : (p q : StreamPosition) (n k : ℕ) (xs : List ℕ) → Passes p (take k xs) q n → Reading q (drop k xs)
    → Reading p xs
passes_on p q n k xs pass rest =
    let whole : Reading p (take k xs ++ drop k xs) = record {
      frames = rest.frames;
      skipped = n + rest.skipped;
      fault = rest.fault;
      is = stream_behind_parts p q n rest.skipped (take k xs) (drop k xs) rest.frames rest.fault pass rest.is;
    } in
    subst (Reading p) (take-append-drop k xs) whole

-- a part of so many octets with a frame, before an input
gives_on : (p : StreamPosition) (k : ℕ) (xs f : List ℕ) → IsFrame p (take k xs) f → Reading p (drop k xs) → Reading p xs
gives_on p k xs f is rest = record {
  frames = f ∷ rest.frames;
  skipped = 0 + rest.skipped;
  fault = rest.fault;
  is = (p, [], take k xs, drop k xs, 0, rest.skipped, nothing_passed p, is, sym (take-append-drop k xs), rest.is, refl);
}

-- the readings of what follows a part
abbrev Later : StreamPosition → List ℕ → Type 0
Later p xs = (k : ℕ) → 0 < k → k ≤ length xs → Reading p (drop k xs)

record_whole : (order : ByteOrder) (xs : List ℕ) → Later (Records order) xs → 16 + captured order xs ≤ length xs
    → captured order xs ≤ 262144
    → (captured order xs < original order xs) ⊎ (original order xs ≤ captured order xs) → Reading (Records order) xs
record_whole order xs later within limit (inl cut) =
    let k = 16 + captured order xs in
    let is = skipped_taken order k xs within refl limit cut in
    passes_on (Records order) (Records order) 1 k xs
    (refl, (take k xs, [], is, refl, sym (append-nil (take k xs)))) (later k (omega arith) within)
record_whole order xs later within limit (inr full) =
    let k = 16 + captured order xs in
    gives_on (Records order) k xs (drop 16 (take k xs)) (frame_taken order k xs within refl limit full)
    (later k (omega arith) within)

record_short : (order : ByteOrder) (xs : List ℕ) → Later (Records order) xs → 16 ≤ length xs
    → captured order xs ≤ 262144 → (length xs < 16 + captured order xs) ⊎ (16 + captured order xs ≤ length xs)
    → Reading (Records order) xs
record_short order xs later long limit (inl short) =
    let some : eqb (length xs) 0 ≡ false = ne_eqb (length xs) 0 (λ q. omega (arith, q, long)) in
    let first : nat_lt (length xs) 16 ≡ false = le-ltb (length xs) 16 long in
    let low : nat_lt 262144 (captured order xs) ≡ false = le-ltb 262144 (captured order xs) limit in
    let all : nat_lt (length xs) (16 + captured order xs) ≡ true =
    lt-ltb (length xs) (16 + captured order xs) short in
    breaks (Records order) xs Truncated (rw (some, first, low, all) refl)
record_short order xs later long limit (inr within) =
    record_whole order xs later within limit (cases_lt (captured order xs) (original order xs))

record_long : (order : ByteOrder) (xs : List ℕ) → Later (Records order) xs → 16 ≤ length xs
    → (262144 < captured order xs) ⊎ (captured order xs ≤ 262144) → Reading (Records order) xs
record_long order xs later long (inl over) = breaks (Records order) xs Oversize
    (ap (λ z. fault_at (Records order) z) (sym (append-nil xs)) ∙ too_long order xs [] long over)
record_long order xs later long (inr limit) =
    record_short order xs later long limit (cases_lt (length xs) (16 + captured order xs))

record_first : (order : ByteOrder) (xs : List ℕ) → Later (Records order) xs → 0 < length xs
    → (length xs < 16) ⊎ (16 ≤ length xs) → Reading (Records order) xs
record_first order xs later any (inl short) =
    let some : eqb (length xs) 0 ≡ false = ne_eqb (length xs) 0 (λ q. omega (arith, q, any)) in
    let first : nat_lt (length xs) 16 ≡ true = lt-ltb (length xs) 16 short in
    breaks (Records order) xs Truncated (rw (some, first) refl)
record_first order xs later any (inr long) =
    record_long order xs later long (cases_lt 262144 (captured order xs))

records_from : (order : ByteOrder) (xs : List ℕ) → Later (Records order) xs → Reading (Records order) xs
records_from order [] later = stops (Records order) [] None refl (λ none. refl)
records_from order (x ∷ xs) later =
    record_first order (x ∷ xs) later (omega arith) (cases_lt (length (x ∷ xs)) 16)

framed_taken : (field : LengthField) (xs : List ℕ) → framed field xs ≤ 65535
    → octets_of field + framed field xs ≤ length xs
    → IsFramed field (take (octets_of field + framed field xs) xs)
    (drop (octets_of field) (take (octets_of field + framed field xs) xs))
framed_taken field xs limit within =
    let k = octets_of field + framed field xs in
    let front = framed-front field (take k xs) (drop k xs) (omega (arith, length-take k xs, within)) in
    let same : framed field xs ≡ framed field (take k xs) =
    sym (ap (λ z. framed field z) (take-append-drop k xs)) ∙ front in
    record {
      limit = omega (arith, same, limit);
      long = omega (arith, same, length-take k xs, within);
      content = refl;
    }

framed_short : (field : LengthField) (xs : List ℕ) → Later (Lengths field) xs → octets_of field ≤ length xs
    → framed field xs ≤ 65535
    → (length xs < octets_of field + framed field xs) ⊎ (octets_of field + framed field xs ≤ length xs)
    → Reading (Lengths field) xs
framed_short field xs later long limit (inl short) =
    let some : eqb (length xs) 0 ≡ false = ne_eqb (length xs) 0 (λ q. omega (arith, q, long, some_octets field)) in
    let first : nat_lt (length xs) (octets_of field) ≡ false = le-ltb (length xs) (octets_of field) long in
    let low : nat_lt 65535 (framed field xs) ≡ false = le-ltb 65535 (framed field xs) limit in
    let all : nat_lt (length xs) (octets_of field + framed field xs) ≡ true =
    lt-ltb (length xs) (octets_of field + framed field xs) short in
    breaks (Lengths field) xs Truncated (rw (some, first, low, all) refl)
framed_short field xs later long limit (inr within) =
    let k = octets_of field + framed field xs in
    gives_on (Lengths field) k xs (drop (octets_of field) (take k xs)) (framed_taken field xs limit within)
    (later k (omega (arith, some_octets field)) within)

framed_long : (field : LengthField) (xs : List ℕ) → Later (Lengths field) xs → octets_of field ≤ length xs
    → (65535 < framed field xs) ⊎ (framed field xs ≤ 65535) → Reading (Lengths field) xs
framed_long field xs later long (inl over) =
    let some : eqb (length xs) 0 ≡ false = ne_eqb (length xs) 0 (λ q. omega (arith, q, long, some_octets field)) in
    let first : nat_lt (length xs) (octets_of field) ≡ false = le-ltb (length xs) (octets_of field) long in
    let high : nat_lt 65535 (framed field xs) ≡ true = lt-ltb 65535 (framed field xs) over in
    breaks (Lengths field) xs Oversize (rw (some, first, high) refl)
framed_long field xs later long (inr limit) =
    framed_short field xs later long limit (cases_lt (length xs) (octets_of field + framed field xs))

framed_first : (field : LengthField) (xs : List ℕ) → Later (Lengths field) xs → 0 < length xs
    → (length xs < octets_of field) ⊎ (octets_of field ≤ length xs) → Reading (Lengths field) xs
framed_first field xs later any (inl short) =
    let some : eqb (length xs) 0 ≡ false = ne_eqb (length xs) 0 (λ q. omega (arith, q, any)) in
    let first : nat_lt (length xs) (octets_of field) ≡ true = lt-ltb (length xs) (octets_of field) short in
    breaks (Lengths field) xs Truncated (rw (some, first) refl)
framed_first field xs later any (inr long) =
    framed_long field xs later long (cases_lt 65535 (framed field xs))

lengths_from : (field : LengthField) (xs : List ℕ) → Later (Lengths field) xs → Reading (Lengths field) xs
lengths_from field [] later = stops (Lengths field) [] None refl (λ none. refl)
lengths_from field (x ∷ xs) later =
    framed_first field (x ∷ xs) later (omega arith) (cases_lt (length (x ∷ xs)) (octets_of field))

-- at most n parts with octets
reading_within : (n : ℕ) (p : StreamPosition) → ((xs : List ℕ) → Later p xs → Reading p xs) → (xs : List ℕ)
    → length xs ≤ n → Reading p xs
reading_within zero p from xs few = from xs (λ k some within. absurd (omega (arith, few, some, within)))
reading_within (suc n) p from xs few =
    from xs (λ k some within. reading_within n p from (drop k xs)
    (omega (arith, few, some, within, length-drop k xs)))

header_long : (xs : List ℕ) → 24 ≤ length xs → (magic : Option ByteOrder) → byte_order_of (big_number 4 xs) ≡ magic
    → (fault : Option PortFault) → header_fault xs ≡ fault → Reading Header xs
header_long xs long magic is (Some k) broken =
    let all : nat_lt (length xs) 24 ≡ false = le-ltb (length xs) 24 long in
    breaks Header xs k (rw all broken)
header_long xs long None is None sound =
    let wrong : Some Magic ≡ None = sym (ap (λ o. fault_in o xs) is) ∙ sound in
    cc
header_long xs long (Some order) is None sound =
    passes_on Header (Records order) 0 24 xs
    (take 24 xs, [], header_taken order xs long is sound, refl, sym (append-nil (take 24 xs)))
    (reading_within (length (drop 24 xs)) (Records order) (records_from order) (drop 24 xs) (omega arith))

header_first : (xs : List ℕ) → (length xs < 24) ⊎ (24 ≤ length xs) → Reading Header xs
header_first xs (inl short) =
    let all : nat_lt (length xs) 24 ≡ true = lt-ltb (length xs) 24 short in
    breaks Header xs Truncated (rw all refl)
header_first xs (inr long) =
    header_long xs long (byte_order_of (big_number 4 xs)) refl (header_fault xs) refl

pub reading_of : (position : StreamPosition) (octets : List ℕ) → Reading position octets
reading_of Header octets = header_first octets (cases_lt (length octets) 24)
reading_of (Records order) octets =
    reading_within (length octets) (Records order) (records_from order) octets (omega arith)
reading_of (Lengths field) octets =
    reading_within (length octets) (Lengths field) (lengths_from field) octets (omega arith)
