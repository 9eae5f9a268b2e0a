-- Lemmas on lines that are read: cut lines, and what a search for a line found.
use Rattle.std.proofs.Common.{true, false, ◌≢◌, ◌≡◌, ℕ, ◌+◌, ◌≤◌, List, [], ◌∷◌, ◌++◌, length, take, map, Option}
use Rattle.std.proofs.Common.{refl, sym, ap, arith, length-take}
use Rattle.std.proofs.lemmas.List.{take_all}
use Rattle.pb_lines.specs.Lines.{GivesLine, HasNoLine}
use Rattle.pb_lines.specs.Found.{Finds}
use Rattle.pb_lines.specs.contracts.Found.{the_type}
use Rattle.pb_lines.specs.declared.Found.{Found}
use Rattle.pb_lines.specs.declared.Found.TheVariants.{Line, Last, End}
use Rattle.pb_lines.specs.declared.LineFault.{LineFault}
use Rattle.pb_lines.specs.declared.LineFault.TheVariants.{Read as line_unread, Memory as line_unheld}
use denote.Enum.Bare.{sameb}
use Rattle.pb_messages.specs.Faults.{of_line}
use Rattle.pb_messages.specs.declared.fault.CommandFault.TheVariants.{Steps}

-- a line that is short enough after the cut was not cut; for callers of the line reader
pub whole_line : (limit : ℕ) (line : List ℕ) → length (take (limit + 1) line) ≤ limit → take (limit + 1) line ≡ line
whole_line limit line h = take_all (limit + 1) line (omega (arith, length-take (limit + 1) line))

-- a short line is not changed by the cut
pub uncut : (limit : ℕ) (line : List ℕ) → length line ≤ limit → take (limit + 1) line ≡ line
uncut limit line h = take_all (limit + 1) line (omega arith)

-- if the list of cut lines is split, the list of lines is split at the same place
pub parts_of_map : (n : ℕ) (lines front back : List (List ℕ)) → map (λ line. take n line) lines ≡ front ++ back
    → (a : List (List ℕ)) × (b : List (List ℕ)) × (lines ≡ a ++ b) × (front ≡ map (λ line. take n line) a)
    × (back ≡ map (λ line. take n line) b)
parts_of_map n lines [] back e = ([], lines, refl, refl, sym e)
parts_of_map n [] (f ∷ front) back e = cc
parts_of_map n (l ∷ lines) (f ∷ front) back e =
    let head : take n l ≡ f = cc in
    let tail : map (λ line. take n line) lines ≡ front ++ back = cc in
    let parts = parts_of_map n lines front back tail in (
      l ∷ parts.0,
      parts.1,
      ap (λ z. l ∷ z) {y = parts.0 ++ parts.1} parts.2,
      let same : front ≡ map
          (λ line. take n line) parts.0 = parts.3 in cc,
      parts.4,
    )

-- the fault of a line is never `Steps`
pub of_line-not-steps : (e : LineFault) → of_line e ≢ Steps
of_line-not-steps line_unread = λ q. cc
of_line-not-steps line_unheld = λ q. cc

-- if the result of a search is not `End`, it gives a line
pub line_found : (found : Found) (limit : ℕ) (old : Option (List ℕ)) (front : List ℕ) (new : Option (List ℕ))
    (back line : List ℕ)
    → false ≡ sameb the_type found End → Finds found limit old front new back line
    → GivesLine limit old front new back line
line_found Line limit old front new back line q f = f
line_found Last limit old front new back line q f = f.0
line_found End limit old front new back line q f = cc

-- if the result of a search is `End`, there is no line
pub none_found : (found : Found) (limit : ℕ) (old : Option (List ℕ)) (front : List ℕ) (new : Option (List ℕ))
    (back line : List ℕ)
    → true ≡ sameb the_type found End → Finds found limit old front new back line → HasNoLine limit old front
none_found Line limit old front new back line q f = cc
none_found Last limit old front new back line q f = cc
none_found End limit old front new back line q f = f

-- if the result of a search is `Last`, it gives a line and no line follows
pub last_found : (found : Found) (limit : ℕ) (old : Option (List ℕ)) (front : List ℕ) (new : Option (List ℕ))
    (back line : List ℕ)
    → true ≡ sameb the_type found Last → Finds found limit old front new back line
    → GivesLine limit old front new back line × HasNoLine limit new back
last_found Line limit old front new back line q f = cc
last_found Last limit old front new back line q f = f
last_found End limit old front new back line q f = cc
