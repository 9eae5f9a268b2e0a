-- The BPDU of a frame, and the faults of frames that are not BPDUs.
use Rattle.std.specs.Prelude.{ℕ, ◌+◌, ◌/◌, ◌%◌, Bool, List, [], ◌∷◌, Some, None, Ok, Err, length, drop, slice_index, nat_lt, ◌==◌, ◌&&◌, ◌||◌, not, is_none, if◌then◌else◌}
use Rattle.std.specs.declared.option.Option.{Option}
use Rattle.std.specs.declared.result.Result.{Result}
use Rattle.std.proofs.Common.{lit<}
use Rattle.std.proofs.Math.Nat.{mod-lt}
use Rattle.byteorder.specs.Endian.{big_number}
use Rattle.pb_frame.specs.Frames.{kind_of}
use Rattle.pb_bpdu.specs.declared.bpdu.Bpdu.{Bpdu}
use Rattle.pb_bpdu.specs.declared.fault.BpduFault.{BpduFault}
use Rattle.pb_bpdu.specs.declared.fault.BpduFault.TheVariants.{Llc, Short, Protocol, Kind, Old}

-- the big-endian number of n octets at an offset
abbrev pub number_at : ℕ → ℕ → List ℕ → ℕ
number_at place n x = big_number n (drop place x)

-- the octets of logical link control follow the length
abbrev pub has_llc : List ℕ → Bool
has_llc x = slice_index x 14 == 66 && slice_index x 15 == 66 && slice_index x 16 == 3

abbrev pub has_no_llc : List ℕ → Bool
has_no_llc x =
    nat_lt (length x) 17 || nat_lt (kind_of x) 3 || nat_lt (length x) (14 + kind_of x) || not (has_llc x)

-- fewer than n octets of a BPDU are within the length
abbrev pub has_fewer : ℕ → List ℕ → Bool
has_fewer n x = nat_lt (kind_of x) (3 + n)

-- the faults with their conditions, in the order of checking
abbrev pub fault_cases : List ℕ → List (Bool × BpduFault)
fault_cases x =
    (has_no_llc x, Llc)
    ∷ (has_fewer 4 x, Short)
    ∷ (not (slice_index x 17 == 0 && slice_index x 18 == 0), Protocol)
    ∷ (not (slice_index x 20 == 2), Kind)
    ∷ (nat_lt (slice_index x 19) 2, Old)
    ∷ (has_fewer 36 x, Short)
    ∷ []

-- the fault of the first condition that is true
abbrev pub first_of_cases : List (Bool × BpduFault) → Option BpduFault
first_of_cases [] = None
first_of_cases (c ∷ cs) = if c.0 then Some c.1 else first_of_cases cs

abbrev pub first_fault : List ℕ → Option BpduFault
first_fault x = first_of_cases (fault_cases x)

-- the frame can be read as a BPDU
abbrev pub is_readable : List ℕ → Bool
is_readable x = is_none (first_fault x)

abbrev pub is_odd : ℕ → Bool
is_odd n = n % 2 == 1

-- the octet of flags
abbrev pub flags_at : List ℕ → ℕ
flags_at x = slice_index x 21

-- the fields of a BPDU
abbrev pub fields_of : List ℕ → Bpdu
fields_of x = record {
  change = is_odd (flags_at x);
  proposal = is_odd (flags_at x / 2);
  role = flags_at x / 4 % 4;
  learning = is_odd (flags_at x / 16);
  forwarding = is_odd (flags_at x / 32);
  agreement = is_odd (flags_at x / 64);
  root = number_at 22 8 x;
  cost = number_at 30 4 x;
  bridge = number_at 34 8 x;
  port = number_at 42 2 x;
  age = number_at 44 2 x;
  max_age = number_at 46 2 x;
  hello = number_at 48 2 x;
  delay = number_at 50 2 x;
  role_fits = mod-lt (flags_at x / 4) (lit< tt);
}

-- the result of reading a frame: the first fault, otherwise the fields
abbrev pub reading_by : Option BpduFault → Bpdu → Result Bpdu BpduFault
reading_by (Some fault) m = Err fault
reading_by None m = Ok m

abbrev pub reading : List ℕ → Result Bpdu BpduFault
reading x = reading_by (first_fault x) (fields_of x)
