use Rattle.std.proofs.Common.{map, sym, ◌∙◌}
use Rattle.std.proofs.lemmas.Simd.{map-map}
use Rattle.pb_workers.specs.Ports.{PortFrames}
use Rattle.pb_cmd_run.proofs.CarriedLemmas.{closed_alike}
use Rattle.pb_cmd_run.proofs.UnsentLemmas.{have_on}
use Rattle.pb_cmd_run.proofs.outcome.close_run.Goals as goal

pub returns-clause-files : goal.returns-clause-files
returns-clause-files g c = record {
  last = _;
  went_on = have_on c.read_out-run.ensures.went_on c.lingered-ran.ensures.went_on;
  unsent_are = c.in_ok-ports.ensures.waiting ∙ sym (map-map (λ (p : PortFrames). p.waiting) _ _);
  was = g.O.Openings.holds c.args.opener.now;
  closed = closed_alike _ _ _ _ _ (sym (map-map (λ (p : PortFrames). p.output) _ _)) c.in_ok-ports.ensures.files;
}
