use Rattle.std.proofs.Common.{◌∷◌, [], refl}
use Rattle.pb_cmd_trace.specs.declared.lines.TraceLine.TheVariants.{Entered}
use Rattle.pb_cmd_trace.proofs.frame.tell_entry.Goals as goal

pub returns : goal.returns
returns c = (
  Entered c.args.port c.newest.result.1.now ∷ [],
  c.in_ok-push_entry.ensures,
  record {
    step = c.newest.result.1.now;
    newest = c.newest.ensures.newest;
    lawful = c.newest.ensures.lawful;
    number_is = c.entry_number.ensures;
    lines_are = refl;
  },
)
