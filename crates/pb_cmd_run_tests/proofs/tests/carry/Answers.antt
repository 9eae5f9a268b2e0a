use Rattle.std.proofs.Common.{◌≡◌, IfOk}
use Rattle.pb_cmd_run.specs.Networks.{PrintsNetwork}
use Rattle.pb_cmd_run_tests.proofs.StrictLaws.{strict_carried}
use Rattle.pb_cmd_run_tests.proofs.tests.carry.Goals as goal

pub returns-clause-carried : goal.returns-clause-carried
returns-clause-carried g c = strict_carried c.args.manner.strictness c.as_bytes-file.result.now c.args.file.now
    (g.W.Write.contents c.args.writer.now) (g.W.Write.contents c.run_network-result.new.writer)
    c.run_network-result.result
    c.as_bytes-file.ensures.value c.run_network-result.ensures.ok
