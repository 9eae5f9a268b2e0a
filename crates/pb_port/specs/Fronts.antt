-- The front of a stream decides which part is there, whatever follows.
use Rattle.std.proofs.Common.{◌≡◌, ℕ, ◌+◌, ◌<◌, ◌≤◌, true, false, nat_lt, List, ◌++◌, length, take, drop, refl, sym}
use Rattle.std.proofs.Common.{ap, ◌∙◌, arith, length-take, length-drop, length-append, Option, Some, None, ne_eqb}
use Rattle.std.proofs.Common.{eqb}
use Rattle.std.proofs.lemmas.Bool.{le-ltb, lt-ltb}
use Rattle.std.proofs.lemmas.List.{drop-append-le, take-append-drop}
use Rattle.byteorder.specs.Endian.{big_number, little_number}
use Rattle.byteorder.specs.Numbers.{big_from-append, little_from-append}
use Rattle.pb_port.specs.declared.fault.PortFault.{PortFault}
use Rattle.pb_port.specs.declared.fault.PortFault.TheVariants.{Oversize}
use Rattle.pb_port.specs.declared.framing.LengthField.{LengthField}
use Rattle.pb_port.specs.declared.framing.LengthField.TheVariants.{Two, Four}
use Rattle.pb_port.specs.declared.stream_position.ByteOrder.{ByteOrder}
use Rattle.pb_port.specs.declared.stream_position.ByteOrder.TheVariants.{Big, Little}
use Rattle.pb_port.specs.declared.stream_position.StreamPosition.TheVariants.{Header, Records}
use Rattle.pb_port.specs.LengthFields.{octets_of}
use Rattle.pb_port.specs.Streams.{number, byte_order_of, fault_of_numbers, fault_in, header_fault, captured, original}
use Rattle.pb_port.specs.Streams.{fault_at, IsHeader, IsRecord, IsSkipped, IsFrameRecord, framed}

pub number-front : (order : ByteOrder) (n k : ℕ) (xs ys : List ℕ) → k + n ≤ length xs
    → number order n (drop k (xs ++ ys)) ≡ number order n (drop k xs)
number-front Big n k xs ys h =
    let room : n ≤ length (drop k xs) = simp length-drop (omega arith) in
    ap (λ z. big_number n z) (drop-append-le k xs ys (omega arith)) ∙ big_from-append n (drop k xs) ys room
number-front Little n k xs ys h =
    let room : n ≤ length (drop k xs) = simp length-drop (omega arith) in
    ap (λ z. little_number n z) (drop-append-le k xs ys (omega arith)) ∙ little_from-append n (drop k xs) ys room

fault_in-front : (o : Option ByteOrder) (xs ys : List ℕ) → 24 ≤ length xs → fault_in o (xs ++ ys) ≡ fault_in o xs
fault_in-front None xs ys h = refl
fault_in-front (Some order) xs ys h =
    let a = number-front order 2 4 xs ys (omega arith) in
    let b = number-front order 2 6 xs ys (omega arith) in
    let d = number-front order 4 20 xs ys (omega arith) in
    ap (λ n. fault_of_numbers n (number order 2 (drop 6 (xs ++ ys))) (number order 4 (drop 20 (xs ++ ys)))) a
    ∙ ap (λ n. fault_of_numbers (number order 2 (drop 4 xs)) n (number order 4 (drop 20 (xs ++ ys)))) b
    ∙ ap (λ n. fault_of_numbers (number order 2 (drop 4 xs)) (number order 2 (drop 6 xs)) n) d

pub header_fault-front : (xs ys : List ℕ) → 24 ≤ length xs → header_fault (xs ++ ys) ≡ header_fault xs
header_fault-front xs ys h =
    ap (λ m. fault_in (byte_order_of m) (xs ++ ys)) (big_from-append 4 xs ys (omega arith))
    ∙ fault_in-front (byte_order_of (big_number 4 xs)) xs ys h

-- the header that is taken
pub header_taken : (order : ByteOrder) (octets : List ℕ) → 24 ≤ length octets
    → byte_order_of (big_number 4 octets) ≡ Some order → header_fault octets ≡ None
    → IsHeader order (take 24 octets)
header_taken order octets h magic sound =
    let long : length (take 24 octets) ≡ 24 = omega (arith, length-take 24 octets) in
    let parts = take-append-drop 24 octets in
    let first : big_number 4 octets ≡ big_number 4 (take 24 octets) =
    sym (ap (λ z. big_number 4 z) parts) ∙ big_from-append 4 (take 24 octets) (drop 24 octets) (omega arith) in
    let same : header_fault octets ≡ header_fault (take 24 octets) =
    sym (ap (λ z. header_fault z) parts) ∙ header_fault-front (take 24 octets) (drop 24 octets) (omega arith) in
    record { long = long; magic = sym (ap (λ m. byte_order_of m) first) ∙ magic; sound = sym same ∙ sound }

pub header_broken : (k : PortFault) (octets more : List ℕ) → 24 ≤ length octets → header_fault octets ≡ Some k
    → fault_at Header (octets ++ more) ≡ Some k
header_broken k octets more h broken =
    let long : nat_lt (length (octets ++ more)) 24 ≡ false = le-ltb (length (octets ++ more)) 24
    (omega (arith, length-append octets more)) in
    rw long (header_fault-front octets more h ∙ broken)

-- a number in the taken octets is that in all octets
pub number_taken : (order : ByteOrder) (n k whole : ℕ) (octets : List ℕ) → k + n ≤ whole → whole ≤ length octets
    → number order n (drop k (take whole octets)) ≡ number order n (drop k octets)
number_taken order n k whole octets h within =
    let room : k + n ≤ length (take whole octets) = omega (arith, length-take whole octets) in
    sym (number-front order n k (take whole octets) (drop whole octets) room)
    ∙ ap (λ z. number order n (drop k z)) (take-append-drop whole octets)

pub record_taken : (order : ByteOrder) (whole : ℕ) (octets : List ℕ) → whole ≤ length octets
    → whole ≡ 16 + captured order octets
    → captured order octets ≤ 262144 → IsRecord order (take whole octets)
record_taken order whole octets within e limit =
    let same = number_taken order 4 8 whole octets (omega arith) within in
    record { limit = omega arith; long = omega (arith, length-take whole octets) }

pub skipped_taken : (order : ByteOrder) (whole : ℕ) (octets : List ℕ) → whole ≤ length octets
    → whole ≡ 16 + captured order octets
    → captured order octets ≤ 262144 → captured order octets < original order octets
    → IsSkipped order (take whole octets)
skipped_taken order whole octets within e limit cut =
    let same = number_taken order 4 8 whole octets (omega arith) within in
    let other = number_taken order 4 12 whole octets (omega arith) within in
    record { whole = record_taken order whole octets within e limit; cut = omega arith }

pub frame_taken : (order : ByteOrder) (whole : ℕ) (octets : List ℕ) → whole ≤ length octets
    → whole ≡ 16 + captured order octets
    → captured order octets ≤ 262144 → original order octets ≤ captured order octets
    → IsFrameRecord order (take whole octets) (drop 16 (take whole octets))
frame_taken order whole octets within e limit full =
    let same = number_taken order 4 8 whole octets (omega arith) within in
    let other = number_taken order 4 12 whole octets (omega arith) within in
    record { whole = record_taken order whole octets within e limit; full = omega arith; content = refl }

-- a record that is too long is a fault, whatever follows
pub too_long : (order : ByteOrder) (octets more : List ℕ) → 16 ≤ length octets → 262144 < captured order octets
    → fault_at (Records order) (octets ++ more) ≡ Some Oversize
too_long order octets more h long =
    let same = number-front order 4 8 octets more (omega arith) in
    let first : nat_lt (length (octets ++ more)) 16 ≡ false = le-ltb (length (octets ++ more)) 16
    (omega (arith, length-append octets more)) in
    let some : eqb (length (octets ++ more)) 0 ≡ false = ne_eqb (length (octets ++ more)) 0
    (λ q. omega (arith, length-append octets more)) in
    let past : nat_lt 262144 (captured order (octets ++ more)) ≡ true =
    lt-ltb 262144 (captured order (octets ++ more)) (omega arith) in
    rw (some, first, past) refl

-- a length has octets
pub some_octets : (field : LengthField) → 0 < octets_of field
some_octets Two = omega arith
some_octets Four = omega arith

-- a length does not depend on what follows it
pub framed-front : (field : LengthField) (xs ys : List ℕ) → octets_of field ≤ length xs
    → framed field (xs ++ ys) ≡ framed field xs
framed-front field xs ys h = big_from-append (octets_of field) xs ys h
