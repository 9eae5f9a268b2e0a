use Rattle.std.proofs.Common.{◌∙◌, ap, inr, suc, arith}
use Rattle.std.proofs.lemmas.List.{take_rest}
use Rattle.pb_cmd_run.specs.Pipes.{record_length}
use Rattle.pb_cmd_run.proofs.PipeLemmas.{next_end, first_end}
use Rattle.pb_cmd_run.proofs.pipe.share_of.Goals as goal

pub loop-piece-preserved : goal.loop-piece-preserved
loop-piece-preserved c =
    let (n, ends) = c.loop-piece.invariant.2 in
    let octets = c.args.octets.now in
    let measured = c.record_length-length.ensures ∙ ap record_length (take_rest octets c.loop-piece.end) in
    (grind arith, grind arith, (suc n, next_end octets c.args.left c.loop-piece.end _ n ends measured))

pub returns-else-length-octets-2-clause-whole : goal.returns-else-length-octets-2-clause-whole
returns-else-length-octets-2-clause-whole c =
    inr (1, first_end _ _ _ (grind arith) c.record_length-length-2.ensures)
