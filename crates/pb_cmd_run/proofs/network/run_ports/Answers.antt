use Rattle.std.proofs.Common.{ap, ◌∙◌, arith}
use Rattle.std.proofs.lemmas.Grind.{common_steps}
use Rattle.std.proofs.lemmas.Simd.{map-map}
use Rattle.pb_workers.specs.Ports.{PortFrames}
use Rattle.pb_cmd_run.proofs.CarriedLemmas.{are_carried, file_known, start_reading, start_writing}
use Rattle.pb_run.proofs.Values.{on_value}
use Rattle.pb_cmd_run.proofs.NetworkLemmas.{are_scripted, not_ports}
use Rattle.pb_cmd_run.proofs.UnsentLemmas.{are_unsent, nothing_waits}
use Rattle.pb_cmd_run.proofs.network.run_ports.Goals as goal

pub tell_run-requires-clause-unsent : goal.tell_run-requires-clause-unsent
tell_run-requires-clause-unsent g c κs met =
    are_unsent _ _ _ _ _ c.in-Ok.ensures.run.ports c.requires.fresh

pub returns-in-Ok-clause-ok : goal.returns-in-Ok-clause-ok
returns-in-Ok-clause-ok g c =
    let ran = c.in-Ok.run'.ran in
    let run = c.in-Ok.ensures.run in
    on_value c.tell_run.result c.tell_run.ensures.ok (λ status told specs was start. record {
      rec = ran.counts;
      lawful = run.steps.lawful;
      headline = run.steps.headline;
      whole = c.in-Ok.ensures.lossless;
      lasts = ran.last.items;
      last_count = grind (arith, common_steps);
      scripted = are_scripted specs _ _ ran.counts.customers ran.last.items
          (map-map (λ (p : PortFrames). p.script) _ _ ∙ start.scripts_are) run.ports;
      ended = ran.ended;
      tells_ended = run.ended;
      settled = ran.settled;
      unsent = told.0;
      report = told.1;
      carried = are_carried _ was _ specs _ _ ran.counts.customers ran.last.items told.0 _
          (start_reading _ _ (λ w. file_known _ _ _ _ _ w.port) was _ specs start.unread_are)
          (start_writing _ _ (λ w. file_known _ _ _ _ _ w.port) _ _ specs start.outputs_are)
          (nothing_waits _ _ c.requires.fresh) (c.as_slice-in-Ok.ensures.value ∙ start.paths_are) run.ports told.2;
    })

pub returns-in-Ok-clause-err : goal.returns-in-Ok-clause-err
returns-in-Ok-clause-err g c = not_ports c.tell_run.result c.tell_run.ensures.kinds
