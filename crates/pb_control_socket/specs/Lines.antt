-- The octets that a buffer of lines holds, and the lines that it returns.
use Rattle.std.specs.Prelude.{◌≡◌, ℕ, ◌+◌, ◌≤◌, List, ◌∷◌, ◌++◌, length, drop}
use Rattle.pb_lines.specs.Lines.{cut_lines, HasNoLf}
use Rattle.pb_control_socket.specs.declared.lines.LineBuffer.{LineBuffer}

-- the octets that were put and are not part of a returned line. A line that is too long is cut
abbrev pub held : LineBuffer → List ℕ
held b = b.line.items ++ drop b.start b.waiting.items

-- the greatest number of octets of a line, except for one that shows that it is too long
abbrev pub limit_of : LineBuffer → ℕ
limit_of b = b.limit

-- the first line was returned: whatever follows, the lines are this one and those of the octets that are held then
abbrev pub GivesLine : ℕ → List ℕ → List ℕ → List ℕ → Type 0
GivesLine limit old line new = (more : List ℕ) → cut_lines limit (old ++ more) ≡ line ∷ cut_lines limit (new ++ more)

-- no line has ended yet, and not much of it is held: whatever follows, the lines stay the same
pub record KeepsLine (limit : ℕ) (old new : List ℕ) : Type 0 where
  pub unended : HasNoLf new
  pub short : length new ≤ limit + 1
  pub same : (more : List ℕ) → cut_lines limit (old ++ more) ≡ cut_lines limit (new ++ more)
