-- The result of `read` against the relation `IsBpduFrame`.
use Rattle.std.proofs.Common.{◌≡◌, ℕ, ◌<◌, ◌≤◌, ◌+◌, ◌*◌, ◌/◌, ◌%◌, List, [], ◌∷◌, ◌++◌, refl, sym, ap, ◌∙◌, length}
use Rattle.std.proofs.Common.{take, drop, slice_index, arith, Bool, true, false, Some, None, nat_lt, ◌==◌, ◌&&◌, ◌||◌}
use Rattle.std.proofs.Common.{not, append_assoc, Ok, Err, length-drop, ap₂, subst, IfOk, IfErr, OnOk, is_ok, is_none}
use Rattle.std.specs.declared.result.Result.{Result}
use Rattle.std.specs.declared.option.Option.{Option}
use Rattle.pb_frame.specs.Admission.{provider_address}
use Rattle.std.proofs.lemmas.Bool.{eqb-true, ltb-false, le-ltb, eq-eqb, or_parts, and_parts, not-false}
use Rattle.std.proofs.lemmas.List.{take-append-drop}
use Rattle.byteorder.specs.Endian.{big_bytes}
use Rattle.byteorder.specs.Numbers.{big_number-reads_back}
use Rattle.pb_frame.specs.Frames.{AreOctets, kind_of}
use Rattle.pb_bpdu.specs.Layout.{bit, flags, numbers, body, Fits, IsBpduFrame, written}
use Rattle.pb_bpdu.specs.Reading.{number_at, has_llc, has_no_llc, has_fewer, first_of_cases, first_fault, flags_at}
use Rattle.pb_bpdu.specs.Reading.{fields_of, is_readable, reading, reading_by}
use Rattle.pb_bpdu.specs.declared.bpdu.Bpdu.{Bpdu}
use Rattle.pb_bpdu.specs.declared.fault.BpduFault.{BpduFault}
use Rattle.pb_bpdu.specs.declared.fault.BpduFault.TheVariants.{Llc, Short, Protocol, Kind, Old}
use Rattle.pb_bpdu.proofs.Digits.{octet_at, cell_is, cell, part, part_length, number_8, number_4, number_2}
use Rattle.pb_bpdu.proofs.Digits.{number_fits, bit-odd, odd-bit, flags_back, flags_apart}
use Rattle.pb_bpdu.proofs.Equal.{bpdu_eq}

-- Tests.

-- none of six conditions is true
record NoneOf (a b c d e f : Bool) : Type 0 where
  first : a ≡ false
  second : b ≡ false
  third : c ≡ false
  fourth : d ≡ false
  fifth : e ≡ false
  sixth : f ≡ false

none_of : (a b c d e f : Bool)
    → first_of_cases ((a, Llc) ∷ (b, Short) ∷ (c, Protocol) ∷ (d, Kind) ∷ (e, Old) ∷ (f, Short) ∷ []) ≡ None
    → NoneOf a b c d e f
none_of false false false false false false h =
    record { first = refl; second = refl; third = refl; fourth = refl; fifth = refl; sixth = refl }
none_of true b c d e f h = cc
none_of false true c d e f h = cc
none_of false false true d e f h = cc
none_of false false false true e f h = cc
none_of false false false false true f h = cc
none_of false false false false false true h = cc

none_holds : (a b c d e f : Bool) → NoneOf a b c d e f
    → first_of_cases ((a, Llc) ∷ (b, Short) ∷ (c, Protocol) ∷ (d, Kind) ∷ (e, Old) ∷ (f, Short) ∷ []) ≡ None
none_holds a b c d e f n = rw (n.first, n.second, n.third, n.fourth, n.fifth, n.sixth) refl

-- the properties of a frame without a fault
record Sound (x : List ℕ) : Type 0 where
  within : 14 + kind_of x ≤ length x
  long : 39 ≤ kind_of x
  llc : (slice_index x 14 ≡ 66) × (slice_index x 15 ≡ 66) × (slice_index x 16 ≡ 3)
  protocol : (slice_index x 17 ≡ 0) × (slice_index x 18 ≡ 0)
  recent : 2 ≤ slice_index x 19
  kind : slice_index x 20 ≡ 2

-- the six conditions of a frame without a fault
tests : (x : List ℕ) → first_fault x ≡ None
    → NoneOf (has_no_llc x) (has_fewer 4 x) (not (slice_index x 17 == 0 && slice_index x 18 == 0))
    (not (slice_index x 20 == 2))
    (nat_lt (slice_index x 19) 2) (has_fewer 36 x)
tests x none = none_of (has_no_llc x) (has_fewer 4 x) (not (slice_index x 17 == 0 && slice_index x 18 == 0))
    (not (slice_index x 20 == 2))
    (nat_lt (slice_index x 19) 2) (has_fewer 36 x) none

-- the four parts of the first condition
record HasLlc (x : List ℕ) : Type 0 where
  enough : nat_lt (length x) 17 ≡ false
  counts : nat_lt (kind_of x) 3 ≡ false
  within : nat_lt (length x) (14 + kind_of x) ≡ false
  llc : has_llc x ≡ true

llc_parts : (x : List ℕ) → has_no_llc x ≡ false → HasLlc x
llc_parts x e =
    let o1 = or_parts (nat_lt (length x) 17 || nat_lt (kind_of x) 3 || nat_lt (length x) (14 + kind_of x))
    (not (has_llc x)) e in
    let o2 = or_parts (nat_lt (length x) 17 || nat_lt (kind_of x) 3) (nat_lt (length x) (14 + kind_of x)) o1.0 in
    let o3 = or_parts (nat_lt (length x) 17) (nat_lt (kind_of x) 3) o2.0 in
    record { enough = o3.0; counts = o3.1; within = o2.1; llc = not-false (has_llc x) o1.1 }

sound : (x : List ℕ) → first_fault x ≡ None → Sound x
sound x none =
    let t = tests x none in
    let h = llc_parts x t.first in
    let l1 = and_parts (slice_index x 14 == 66 && slice_index x 15 == 66) (slice_index x 16 == 3) h.llc in
    let l2 = and_parts (slice_index x 14 == 66) (slice_index x 15 == 66) l1.0 in
    let p1 = and_parts (slice_index x 17 == 0) (slice_index x 18 == 0)
    (not-false (slice_index x 17 == 0 && slice_index x 18 == 0) t.third) in
    record {
      within = ltb-false (length x) (14 + kind_of x) h.within;
      long = ltb-false (kind_of x) 39 t.sixth;
      llc = (
        eqb-true (slice_index x 14) 66 l2.0,
        eqb-true (slice_index x 15) 66 l2.1,
        eqb-true (slice_index x 16) 3
            l1.1,
      );
      protocol = (eqb-true (slice_index x 17) 0 p1.0, eqb-true (slice_index x 18) 0 p1.1);
      recent = ltb-false (slice_index x 19) 2 t.fifth;
      kind = eqb-true (slice_index x 20) 2 (not-false (slice_index x 20 == 2) t.fourth);
    }

-- the flags that are read are those of the octet
flag_sum : (c c' p p' r l l' w w' a a' h : ℕ) → c ≡ c' → p ≡ p' → l ≡ l' → w ≡ w' → a ≡ a'
    → c + 2 * p + 4 * r + 16 * l + 32 * w + 64 * a + 128 * h ≡ c' + 2 * p' + 4 * r + 16 * l' + 32 * w' + 64 * a' + 128
    * h
flag_sum c c' p p' r l l' w w' a a' h ec ep el ew ea = omega arith

read_flags : (x : List ℕ) → AreOctets x → slice_index x 21 ≡ flags (fields_of x) + 128 * (flags_at x / 128)
read_flags x octets =
    sym (flags_back (flags_at x) (octet_at x octets 21))
    ∙ flag_sum _ _ _ _ (flags_at x / 4 % 4) _ _ _ _ _ _ (flags_at x / 128)
    (sym (bit-odd (flags_at x))) (sym (bit-odd (flags_at x / 2))) (sym (bit-odd (flags_at x / 16)))
    (sym (bit-odd (flags_at x / 32))) (sym (bit-odd (flags_at x / 64)))

read_numbers : (x : List ℕ) → AreOctets x → 53 ≤ length x → drop 22 x ≡ numbers (fields_of x) ++ drop 52 x
read_numbers x octets long =
    number_8 x 22 octets (omega arith)
    ∙ ap (λ r. big_bytes 8 (number_at 22 8 x) ++ r) (number_4 x 30 octets (omega arith)
    ∙ ap (λ r. big_bytes 4 (number_at 30 4 x) ++ r) (number_8 x 34 octets (omega arith)
    ∙ ap (λ r. big_bytes 8 (number_at 34 8 x) ++ r) (number_2 x 42 octets (omega arith)
    ∙ ap (λ r. big_bytes 2 (number_at 42 2 x) ++ r) (number_2 x 44 octets (omega arith)
    ∙ ap (λ r. big_bytes 2 (number_at 44 2 x) ++ r) (number_2 x 46 octets (omega arith)
    ∙ ap (λ r. big_bytes 2 (number_at 46 2 x) ++ r) (number_2 x 48 octets (omega arith)
    ∙ ap (λ r. big_bytes 2 (number_at 48 2 x) ++ r) (number_2 x 50 octets (omega arith))))))))

-- the last octets of the body
read_last : (x : List ℕ) → AreOctets x → 53 ≤ length x
    → drop 22 x ≡ (numbers (fields_of x) ++ slice_index x 52 ∷ []) ++ drop 53 x
read_last x octets long =
    read_numbers x octets long
    ∙ ap (λ r. numbers (fields_of x) ++ r) (cell x 52 (omega arith))
    ∙ sym (append_assoc (numbers (fields_of x)) (slice_index x 52 ∷ []) (drop 53 x))

read_head : (x : List ℕ) → Sound x → AreOctets x → 53 ≤ length x
    → drop 12 x ≡ slice_index x 12 ∷ slice_index x 13 ∷ 66 ∷ 66 ∷ 3
    ∷ (body (slice_index x 19) (flags (fields_of x) + 128 * (flags_at x / 128)) (fields_of x) (slice_index x 52)
    ++ drop 53 x)
read_head x s octets long =
    cell x 12 (omega arith)
    ∙ ap (λ r. slice_index x 12 ∷ r) (cell x 13 (omega arith)
    ∙ ap (λ r. slice_index x 13 ∷ r) (cell_is x 14 66 (omega arith) s.llc.0
    ∙ ap (λ r. 66 ∷ r) (cell_is x 15 66 (omega arith) s.llc.1
    ∙ ap (λ r. 66 ∷ r) (cell_is x 16 3 (omega arith) s.llc.2
    ∙ ap (λ r. 3 ∷ r) (cell_is x 17 0 (omega arith) s.protocol.0
    ∙ ap (λ r. 0 ∷ r) (cell_is x 18 0 (omega arith) s.protocol.1
    ∙ ap (λ r. 0 ∷ r) (cell x 19 (omega arith)
    ∙ ap (λ r. slice_index x 19 ∷ r) (cell_is x 20 2 (omega arith) s.kind
    ∙ ap (λ r. 2 ∷ r) (cell_is x 21 _ (omega arith) (read_flags x octets)
    ∙ ap (λ r. (flags (fields_of x) + 128 * (flags_at x / 128)) ∷ r) (read_last x octets long))))))))))

-- the fields that are read are those of a BPDU in the frame, for `read`
pub found : (x : List ℕ) → AreOctets x → first_fault x ≡ None → IsBpduFrame x (fields_of x)
found x octets none =
    let s = sound x none in
    let long : 53 ≤ length x = omega (arith, s.within, s.long) in
    let small = octet_at x octets in
    record {
      dst = take 6 x;
      src = take 6 (drop 6 x);
      high = slice_index x 12;
      low = slice_index x 13;
      version = slice_index x 19;
      highest = flags_at x / 128;
      last = slice_index x 52;
      rest = drop 53 x;
      dst_length = part_length x 0 6 (omega arith);
      src_length = part_length x 6 6 (omega arith);
      long_enough = s.long;
      within = omega (arith, s.within, length-drop 53 x);
      recent = s.recent;
      one_flag = omega (arith, small 21);
      fits = record {
        root = number_fits x 22 8 octets;
        cost = number_fits x 30 4 octets;
        bridge = number_fits x 34 8 octets;
        port = number_fits x 42 2 octets;
        age = number_fits x 44 2 octets;
        max_age = number_fits x 46 2 octets;
        hello = number_fits x 48 2 octets;
        delay = number_fits x 50 2 octets;
      };
      spelled = sym (take-append-drop 6 x)
          ∙ ap (λ r. take 6 x ++ r) (part x 6 6 ∙ ap (λ r. take 6 (drop 6 x) ++ r) (read_head x s octets long));
    }

-- a list of six octets is its six elements
record IsSix (x : List ℕ) : Type 0 where
  a : ℕ
  b : ℕ
  c : ℕ
  d : ℕ
  e : ℕ
  f : ℕ
  is : x ≡ a ∷ b ∷ c ∷ d ∷ e ∷ f ∷ []

six : (x : List ℕ) → length x ≡ 6 → IsSix x
six [] l = absurd (omega (arith, l))
six (a ∷ []) l = absurd (omega (arith, l))
six (a ∷ b ∷ []) l = absurd (omega (arith, l))
six (a ∷ b ∷ c ∷ []) l = absurd (omega (arith, l))
six (a ∷ b ∷ c ∷ d ∷ []) l = absurd (omega (arith, l))
six (a ∷ b ∷ c ∷ d ∷ e ∷ []) l = absurd (omega (arith, l))
six (a ∷ b ∷ c ∷ d ∷ e ∷ f ∷ []) l = record { a = a; b = b; c = c; d = d; e = e; f = f; is = refl }
six (a ∷ b ∷ c ∷ d ∷ e ∷ f ∷ g ∷ x) l = absurd (omega (arith, l))

-- a frame with its addresses written out
abbrev framed : (dst src : List ℕ) → ℕ → ℕ → ℕ → ℕ → Bpdu → ℕ → List ℕ → List ℕ
framed dst src high low version highest m last rest =
    dst ++ (src ++ (high ∷ low ∷ 66 ∷ 66 ∷ 3 ∷ (body version (flags m + 128 * highest) m last ++ rest)))

-- the parts of a frame that has the BPDU m
record Tells (x : List ℕ) (high low version : ℕ) (m : Bpdu) (highest : ℕ) (rest : List ℕ) : Type 0 where
  size : length x ≡ 53 + length rest
  counts : kind_of x ≡ high * 256 + low
  llc : has_llc x ≡ true
  zero_high : (slice_index x 17 == 0 && slice_index x 18 == 0) ≡ true
  version_is : slice_index x 19 ≡ version
  kind : slice_index x 20 ≡ 2
  flags_are : flags_at x ≡ flags m + 128 * highest
  root : number_at 22 8 x ≡ m.root
  cost : number_at 30 4 x ≡ m.cost
  bridge : number_at 34 8 x ≡ m.bridge
  port : number_at 42 2 x ≡ m.port
  age : number_at 44 2 x ≡ m.age
  max_age : number_at 46 2 x ≡ m.max_age
  hello : number_at 48 2 x ≡ m.hello
  delay : number_at 50 2 x ≡ m.delay

tells : (a b c d e f a' b' c' d' e' f' high low version highest : ℕ) (m : Bpdu) (last : ℕ) (rest : List ℕ) → Fits m
    → Tells (framed (a ∷ b ∷ c ∷ d ∷ e ∷ f ∷ []) (a' ∷ b' ∷ c' ∷ d' ∷ e' ∷ f' ∷ []) high low version highest m last
    rest) high low version m highest rest
tells a b c d e f a' b' c' d' e' f' high low version highest m last rest fits = record {
  size = omega arith;
  counts = refl;
  llc = refl;
  zero_high = refl;
  version_is = refl;
  kind = refl;
  flags_are = refl;
  root = big_number-reads_back 8 m.root [] fits.root;
  cost = big_number-reads_back 4 m.cost [] fits.cost;
  bridge = big_number-reads_back 8 m.bridge [] fits.bridge;
  port = big_number-reads_back 2 m.port [] fits.port;
  age = big_number-reads_back 2 m.age [] fits.age;
  max_age = big_number-reads_back 2 m.max_age [] fits.max_age;
  hello = big_number-reads_back 2 m.hello [] fits.hello;
  delay = big_number-reads_back 2 m.delay [] fits.delay;
}

bit-below : (b : Bool) → bit b < 2
bit-below true = omega arith
bit-below false = omega arith

no_llc_false : (a b c d : Bool) → a ≡ false → b ≡ false → c ≡ false → d ≡ true → (a || b || c || not d) ≡ false
no_llc_false a b c d ea eb ec ed = rw (ea, eb, ec, ed) refl

-- a frame that has a BPDU has no fault
no_fault : (x : List ℕ) (high low version : ℕ) (m : Bpdu) (highest : ℕ) (rest : List ℕ)
    → Tells x high low version m highest rest
    → 39 ≤ high * 256 + low → high * 256 + low ≤ 39 + length rest → 2 ≤ version → first_fault x ≡ None
no_fault x high low version m highest rest t enough within recent =
    let size = t.size in
    let counts = t.counts in
    let version_is = t.version_is in
    let kind = t.kind in
    none_holds (has_no_llc x) (has_fewer 4 x) (not (slice_index x 17 == 0 && slice_index x 18 == 0))
    (not (slice_index x 20 == 2))
    (nat_lt (slice_index x 19) 2) (has_fewer 36 x)
    (record {
      first = no_llc_false (nat_lt (length x) 17) (nat_lt (kind_of x) 3) (nat_lt (length x) (14 + kind_of x))
          (has_llc x)
          (le-ltb (length x) 17 (omega arith)) (le-ltb (kind_of x) 3 (omega arith))
          (le-ltb (length x) (14 + kind_of x) (omega arith)) t.llc;
      second = le-ltb (kind_of x) 7 (omega arith);
      third = ap not t.zero_high;
      fourth = ap not (eq-eqb (slice_index x 20) 2 t.kind);
      fifth = le-ltb (slice_index x 19) 2 (omega arith);
      sixth = le-ltb (kind_of x) 39 (omega arith);
    })

-- the fields that are read are those of the BPDU
fields_told : (x : List ℕ) (high low version : ℕ) (m : Bpdu) (highest : ℕ) (rest : List ℕ)
    → Tells x high low version m highest rest
    → highest < 2 → fields_of x ≡ m
fields_told x high low version m highest rest t one =
    let apart = flags_apart (bit m.change) (bit m.proposal) m.role (bit m.learning) (bit m.forwarding)
    (bit m.agreement) highest
    (bit-below m.change) (bit-below m.proposal) m.role_fits (bit-below m.learning) (bit-below m.forwarding)
    (bit-below m.agreement) one
    (flags_at x) t.flags_are in
    bpdu_eq (fields_of x) m (odd-bit (flags_at x) m.change apart.0) (odd-bit (flags_at x / 2) m.proposal apart.1)
    apart.2
    (odd-bit (flags_at x / 16) m.learning apart.3) (odd-bit (flags_at x / 32) m.forwarding apart.4)
    (odd-bit (flags_at x / 64) m.agreement apart.5)
    t.root t.cost t.bridge t.port t.age t.max_age t.hello t.delay

-- a BPDU in a frame is read from it, for `read`
pub only : (x : List ℕ) (m : Bpdu) → IsBpduFrame x m → reading x ≡ Ok m
only x m b =
    let dst = six b.dst b.dst_length in
    let src = six b.src b.src_length in
    let spelled : x ≡ framed (dst.a ∷ dst.b ∷ dst.c ∷ dst.d ∷ dst.e ∷ dst.f ∷ [])
    (src.a ∷ src.b ∷ src.c ∷ src.d ∷ src.e ∷ src.f ∷ [])
    b.high b.low b.version b.highest m b.last b.rest =
    b.spelled ∙ ap₂ (λ d s. framed d s b.high b.low b.version b.highest m b.last b.rest) dst.is src.is in
    let t = tells dst.a dst.b dst.c dst.d dst.e dst.f src.a src.b src.c src.d src.e src.f b.high b.low b.version
    b.highest m b.last b.rest b.fits in
    ap reading spelled
    ∙ ap₂ reading_by
    (no_fault _ b.high b.low b.version m b.highest b.rest t b.long_enough b.within b.recent)
    (fields_told _ b.high b.low b.version m b.highest b.rest t b.one_flag)

-- the written frame has the BPDU, for `write`
pub written_frame : (src : List ℕ) (m : Bpdu) → length src ≡ 6 → Fits m → IsBpduFrame (written src m) m
written_frame src m l fits = record {
  dst = provider_address;
  src = src;
  high = 0;
  low = 39;
  version = 2;
  highest = 0;
  last = 0;
  rest = [];
  dst_length = refl;
  src_length = l;
  long_enough = omega arith;
  within = omega arith;
  recent = omega arith;
  one_flag = omega arith;
  fits = fits;
  spelled = ap (λ n. provider_address ++ (src ++ (0 ∷ 39 ∷ 66 ∷ 66 ∷ 3 ∷ body 2 n m 0))) (none (flags m));
}
  where
    none : (n : ℕ) → n ≡ n + 128 * 0
    none n = omega arith

-- the written frame is read as the BPDU, for `what_is_written_is_read`
pub read_again : (src : List ℕ) (m : Bpdu) → length src ≡ 6 → Fits m → reading (written src m) ≡ Ok m
read_again src m l fits = only (written src m) m (written_frame src m l fits)

-- a fault is the first of the frame, for `read`
pub fault_is_first : (x : List ℕ) (f : BpduFault) → reading x ≡ Err f → first_fault x ≡ Some f
fault_is_first x f e = by_fault (first_fault x) (fields_of x) f e
  where
    by_fault : (found : Option BpduFault) (m : Bpdu) (f : BpduFault) → reading_by found m ≡ Err f → found ≡ Some f
    by_fault None m f e = cc
    by_fault (Some g) m f e = cc

-- a BPDU that is read is in the frame, for `read`
pub read_stands : (x : List ℕ) (m : Bpdu) → AreOctets x → reading x ≡ Ok m → IsBpduFrame x m
read_stands x m octets e = by_fault (first_fault x) refl e
  where
    by_fault : (fault : Option BpduFault) → first_fault x ≡ fault → reading_by fault (fields_of x) ≡ Ok m
        → IsBpduFrame x m
    by_fault None none e = let P : Bpdu → Type 0 = λ n. IsBpduFrame x n in subst P (cc) (found x octets none)
    by_fault (Some g) some e = cc

pub read_found : (x : List ℕ) (r : Result Bpdu BpduFault) → AreOctets x → r ≡ reading x → IfOk r (λ m. IsBpduFrame x m)
read_found x (Ok m) octets e = read_stands x m octets (sym e)
read_found x (Err f) octets e = tt

pub read_fault : (x : List ℕ) (r : Result Bpdu BpduFault) → r ≡ reading x → IfErr r (λ f. first_fault x ≡ Some f)
read_fault x (Ok m) e = tt
read_fault x (Err f) e = fault_is_first x f (sym e)

pub stands : {E : Type 0} (src : List ℕ) (m : Bpdu) (r : Result (List ℕ) E) → length src ≡ 6 → OnOk r (Fits m)
    → IfOk r (λ x. x ≡ written src m)
    → IfOk r (λ x. IsBpduFrame x m)
stands src m (Ok x) l fits e = let P : List ℕ
    → Type 0 = λ z. IsBpduFrame z m in subst P (sym e) (written_frame src m l fits)
stands src m (Err e) l fits h = tt

-- a frame is read exactly if `is_readable` holds, for `read`
pub read_readable : (x : List ℕ) (r : Result Bpdu BpduFault) → r ≡ reading x → is_ok r ≡ is_readable x
read_readable x r e = ap is_ok e ∙ by_fault (first_fault x) (fields_of x)
  where
    by_fault : (found : Option BpduFault) (m : Bpdu) → is_ok (reading_by found m) ≡ is_none found
    by_fault None m = refl
    by_fault (Some g) m = refl
