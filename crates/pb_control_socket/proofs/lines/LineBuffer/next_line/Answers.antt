use Rattle.std.proofs.Common.{ap, ◌∙◌, arith}
use Rattle.pb_control_socket.proofs.BufferLemmas.{rest_is, gives, keeps}
use Rattle.pb_control_socket.proofs.lines.LineBuffer.next_line.Goals as goal

pub invariant_of-self-in-None : goal.invariant_of-self-in-None
invariant_of-self-in-None c =
    let unended = rw c.in-None.is at c.in_ok-place.ensures.no_lf in
    record {
      has_room = c.args.self.now.has_room;
      short = c.in_ok-place.ensures.short;
      unended = unended;
      within =
          omega arith;
    }

pub returns-in-Some-clause-some : goal.returns-in-Some-clause-some
returns-in-Some-clause-some c =
    let b = c.args.self.now in
    let found = rw c.in-Some.is at c.in_ok-place.ensures.found in
    let part = rest_is c.deref.result.now b.waiting.items b.start c.deref.ensures.value in
    let given = ap (λ v. v.items) c.replace.ensures.value in
    let none = ap (λ v. v.items) c.replace.ensures.after ∙ c.new-next.ensures.items in
    gives b.limit b.line.items b.waiting.items c.take_part.new.line.items _ c.replace.result.items
    c.replace.new.dest.items b.start c.in-Some.place part given none found

pub returns-in-None-clause-none : goal.returns-in-None-clause-none
returns-in-None-clause-none c =
    let b = c.args.self.now in
    let found = rw c.in-None.is at c.in_ok-place.ensures.none in
    let unended = rw c.in-None.is at c.in_ok-place.ensures.no_lf in
    let part = rest_is c.deref.result.now b.waiting.items b.start c.deref.ensures.value in
    keeps b.limit b.line.items b.waiting.items c.take_part.new.line.items _ c.clear.new.self.items b.start part
    c.clear.ensures.items unended (omega (arith, c.in_ok-place.ensures.short)) found
