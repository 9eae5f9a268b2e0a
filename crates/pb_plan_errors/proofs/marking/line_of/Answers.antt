use Rattle.std.proofs.Common.{refl}
use Rattle.pb_plan_errors.proofs.marking.line_of.Goals as goal

pub returns-in_ok-excerpt_of-in-Some : goal.returns-in_ok-excerpt_of-in-Some
returns-in_ok-excerpt_of-in-Some c = record {
  mark = c.in-Some.mark;
  marks = rw c.in-Some.is at c.in_ok-mark_at.ensures;
  excerpt = c.in_ok-excerpt_of-in-Some.field-0;
  excerpt_is = c.in_ok-excerpt_of-in-Some.ensures;
  line_is = refl;
}
