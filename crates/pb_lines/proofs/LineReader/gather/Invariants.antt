use Rattle.std.proofs.Common.{◌≡◌, ◌-◌, ◌≤◌, ◌+◌, ◌++◌, vec_len, false}
use Rattle.pb_lines.specs.Lines.{KeepsLines, HasNoLf}
use Rattle.pb_lines.specs.Reader.{held}
use Rattle.pb_lines.proofs.LineReader.gather.Given as goal

-- the lines from the newest on are those of its part so far, the octets held after it, and the remaining octets
abbrev pub invariant-reads : goal.invariant-reads
invariant-reads g l = record {
  lines : KeepsLines l.self.limit (g.R.Read.remaining l.fn.reader) (held l.fn.self) (g.R.Read.remaining l.reader)
      (l.self.line.items ++ held l.self);
  limit : l.self.limit ≡ l.fn.self.limit;
  gathered : l.self.is_in_chunk ≡ false;
  no_lf : HasNoLf l.self.line.items;
  short : vec_len l.self.line ≤ l.self.limit + 1;
}

abbrev pub decreases-reads : goal.decreases-reads
decreases-reads g l = 1000000000 - l.self.reads
