-- The guarantee of a run, clause by clause.
use Rattle.std.proofs.Common.{Bool, List, Option, map}
use Rattle.std.specs.declared.result.Result.{Result}
use Rattle.std.specs.declared.vec.Vec.{Vec}
use Rattle.pb_frame.specs.declared.memory.Memory.{Memory}
use Rattle.pb_lan.specs.declared.plan.Plan.{Plan}
use Rattle.pb_lan.specs.declared.record.Record.{Record}
use Rattle.pb_run.specs.Runs.{IsRun}
use Rattle.pb_run.specs.declared.ended.Ended.{Ended}
use Rattle.pb_run_tests.specs.Explained.{PortsTell, RunTells}
use Rattle.pb_workers.specs.Ports.{PortFrames}
use Rattle.pb_workers.specs.declared.access.Last.{Last}

pub run_tells : {P Z : Type 0} (view : P → PortFrames) (plan : Plan) (before after : Vec P Z) (rec : Record)
    (lasts : List Last) (end : Ended) (settled : Result (Option Bool) Memory)
    → IsRun view plan before after rec lasts end settled
    → RunTells plan (map view before.items) (map view after.items) rec lasts end settled
run_tells view plan before after rec lasts end settled run = record {
  lawful = run.steps.lawful;
  faithful = run.steps.headline;
  ports = record {
    port_count = run.ports.port_count;
    last_count = run.ports.last_count;
    given = λ number. (run.ports.kept number).given;
    tally = λ number. (run.ports.kept number).tally;
    script = λ number. (run.ports.kept number).script;
    used_up = λ number. (run.ports.kept number).used_up;
    unsent = λ number. (run.ports.kept number).unsent;
    read = λ number. (run.ports.kept number).read;
    wrote = λ number. (run.ports.kept number).wrote;
    gone = λ number. (run.ports.kept number).gone;
  };
  drained = run.ended;
  settled_is = run.settled;
}
