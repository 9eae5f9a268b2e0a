use Rattle.std.proofs.Common.{◌≡◌, ◌+◌, ◌≤◌, length}
use Rattle.std.specs.Prelude.{slice_get}
use Rattle.std.specs.Option.{option_map}
use Rattle.pb_plan_spans.specs.Lines.{lines_of, lines_left, headers_from, header_line}
use Rattle.pb_plan_spans.proofs.LeftOver.{left_of}
use Rattle.pb_plan_spans.proofs.header.header_line.Given as goal

-- among the remaining lines, the header is the one after `left` others
abbrev pub invariant-loop-rest : goal.invariant-loop-rest
invariant-loop-rest l = record {
  header : slice_get (headers_from l.number l.word (lines_left (option_map (λ t. t.now) l.rest))) l.left ≡ header_line
      l.word l.others (lines_of l.file);
  within : l.number + left_of l.rest ≤ length l.file + 2;
}

abbrev pub decreases-loop-rest : goal.decreases-loop-rest
decreases-loop-rest l = left_of l.rest
