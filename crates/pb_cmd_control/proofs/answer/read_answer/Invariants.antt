use Rattle.std.specs.Io.KnownBytes.{Consumes}
use Rattle.pb_cmd_control.proofs.answer.read_answer.Given as goal

abbrev pub invariant-loop : goal.invariant-loop
invariant-loop g l = Consumes (g.R.Read.remaining l.fn.answers) (g.R.Read.remaining l.answers) l.text.items
