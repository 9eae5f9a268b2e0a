use Rattle.pb_plan_spans.proofs.LineLemmas.{first_line, last_line}
use Rattle.pb_plan_spans.proofs.header.cut.Goals as goal

pub returns-in-Some-clause-lines : goal.returns-in-Some-clause-lines
returns-in-Some-clause-lines c = first_line c.args.text.now c.in-Some.line.now c.in-Some.rest.now c.in-Some.ensures

pub returns-in-None-clause-lines : goal.returns-in-None-clause-lines
returns-in-None-clause-lines c = last_line c.args.text.now c.in-None.ensures
