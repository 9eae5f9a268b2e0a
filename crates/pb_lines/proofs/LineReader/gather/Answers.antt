use Rattle.std.proofs.Common.{◌≤◌, ◌<◌, ◌+◌, drop, arith, rules, length, length-take, sym, vec_len}
use Rattle.std.proofs.lemmas.Bool.{eqb-false}
use Rattle.pb_lines.specs.Reader.{held}
use Rattle.pb_lines.proofs.LineLemmas.{gives, ends_none, ends_last, slice_range-later, slice_range-empty}
use Rattle.pb_lines.proofs.LineReader.gather.Goals as goal

pub returns-in-Some-clause-line : goal.returns-in-Some-clause-line
returns-in-Some-clause-line g c =
    let part = held c.reads.self in
    let within : c.in-Some.i < length part = rw (c.in-Some.is, c.deref.ensures.value) at c.in_ok-i.ensures.within in
    let found = rw (c.in-Some.is, c.deref.ensures.value) at c.in_ok-i.ensures.found in
    let room : c.reads.self.start + (c.in-Some.i + 1) ≤ c.reads.self.end = omega (arith, simp length-take at within) in
    let later = slice_range-later c.reads.self.chunk.items c.reads.self.start (c.in-Some.i + 1) c.reads.self.end room in
    rw (later, c.reads.invariant.gathered)
    (gives c.args.self.now.limit (g.R.Read.remaining c.args.reader.now) (g.R.Read.remaining c.reads.reader)
    (held c.args.self.now)
    c.reads.self.line.items part c.take_part.new.line.items (drop (c.in-Some.i + 1) part)
    (rw c.reads.invariant.limit at c.reads.invariant.lines) (rw c.reads.invariant.limit at found))

pub returns-in-Ok-eq0-clause-line : goal.returns-in-Ok-eq0-clause-line
returns-in-Ok-eq0-clause-line g c =
    let none = rw (c.in_default.is, c.deref.ensures.value, c.reads.invariant.limit) at c.in_ok-i.ensures.none in
    ends_none c.args.self.now.limit (g.R.Read.remaining c.args.reader.now) (g.R.Read.remaining c.reads.reader)
    (g.R.Read.remaining c.read_over.new.from) (held c.args.self.now)
    c.reads.self.line.items (held c.reads.self) c.take_part.new.line.items
    (rw c.reads.invariant.limit at c.reads.invariant.lines) none
    (search rules) (search rules) (search rules)

pub returns-in-Ok-eq0-2-clause-line : goal.returns-in-Ok-eq0-2-clause-line
returns-in-Ok-eq0-2-clause-line g c =
    let none = rw (c.in_default.is, c.deref.ensures.value, c.reads.invariant.limit) at c.in_ok-i.ensures.none in
    let empty = slice_range-empty c.read_over.new.buf.items c.reads.self.end in
    rw (empty, c.reads.invariant.gathered)
    (ends_last c.args.self.now.limit (g.R.Read.remaining c.args.reader.now) (g.R.Read.remaining c.reads.reader)
    (g.R.Read.remaining c.read_over.new.from) (held c.args.self.now)
    c.reads.self.line.items (held c.reads.self) c.take_part.new.line.items
    (rw c.reads.invariant.limit at c.reads.invariant.lines) none
    (search rules) (search rules) (rw c.in_default.is at c.in_ok-i.ensures.no_lf)
    (omega (arith, c.in_ok-i.ensures.short))
    (omega (arith, eqb-false (vec_len c.take_part.new.line) 0 (sym c.if-is_empty.ensures))))
