use Rattle.std.proofs.Common.{◌≡◌}
use Rattle.std.specs.List.{list_any}
use Rattle.std.specs.Option.{option_map}
use Rattle.pb_plan_spans.specs.Lines.{lines_of, lines_left, is_quoted}
use Rattle.pb_plan_spans.proofs.LeftOver.{left_of}
use Rattle.pb_plan_spans.proofs.header.has_quoted.Given as goal

-- the earlier lines are not quoted
abbrev pub invariant-loop-rest : goal.invariant-loop-rest
invariant-loop-rest l = list_any is_quoted (lines_left (option_map (λ t. t.now) l.rest)) ≡ list_any is_quoted
    (lines_of l.file)

abbrev pub decreases-loop-rest : goal.decreases-loop-rest
decreases-loop-rest l = left_of l.rest
